use Rattle.std.proofs.Common.{◌≡◌, ◌-◌, IfSome}
use Rattle.std.specs.List.{All}
use Rattle.op_laws.specs.Admits.{Admits}
use Rattle.op_laws.specs.Folds.{fold_of}
use Rattle.list_fusion.specs.Pipes.{type_of, block_of}
use Rattle.list_fusion.proofs.block.fold_elements.Given as goal

abbrev pub invariant-loop-i : goal.invariant-loop-i
invariant-loop-i g l = record {
  value : l.held ≡ fold_of (g.M.Lifted.lifted l.op) (g.M.Semi.combined l.op) (block_of l.pipe l.from l.i);
  fits : IfSome l.held (λ c. g.M.Lifted.fits l.op c (l.i - l.from));
  admitted : All (Admits (type_of l.pipe)) (block_of l.pipe l.from l.i);
}
