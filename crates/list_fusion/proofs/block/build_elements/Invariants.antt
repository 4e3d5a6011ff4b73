use Rattle.std.proofs.Common.{◌≡◌}
use Rattle.list_fusion.specs.Pipes.{type_of, block_of}
use Rattle.list_fusion.proofs.block.build_elements.Given as goal

abbrev pub invariant-loop-i : goal.invariant-loop-i
invariant-loop-i l = record {
  ty : l.list.ty ≡ type_of l.pipe;
  items : l.list.items ≡ block_of l.pipe l.from l.i;
}
