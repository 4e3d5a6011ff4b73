use Rattle.std.proofs.Common.{◌≡◌, ◌-◌, ◌≤◌}
use Rattle.op_laws.specs.Elements.{singles}
use Rattle.list_fusion.specs.Pipes.{block_of}
use Rattle.list_fusion.proofs.block.build_columns.Given as goal

abbrev pub invariant-loop-at : goal.invariant-loop-at
invariant-loop-at l = record {
  first : l.from ≤ l.at;
  within : l.at ≤ l.to;
  items : singles l.numbers.items ≡ block_of l.pipe l.from l.at;
}

abbrev pub decreases-loop-at : goal.decreases-loop-at
decreases-loop-at l = l.to - l.at
