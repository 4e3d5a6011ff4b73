use Rattle.std.proofs.Common.{◌≡◌, ◌-◌, ◌≤◌, IfSome}
use Rattle.std.specs.List.{All}
use Rattle.op_laws.specs.Admits.{Admits}
use Rattle.op_laws.specs.Folds.{fold_of}
use Rattle.list_fusion.specs.Pipes.{type_of, block_of}
use Rattle.list_fusion.proofs.block.fold_columns.Given as goal

abbrev pub invariant-loop-at : goal.invariant-loop-at
invariant-loop-at g l = record {
  first : l.from ≤ l.at;
  within : l.at ≤ l.to;
  value : l.held ≡ fold_of (g.M.Lifted.lifted l.op) (g.M.Semi.combined l.op) (block_of l.pipe l.from l.at);
  fits : IfSome l.held (λ c. g.M.Lifted.fits l.op c (l.at - l.from));
  admitted : All (Admits (type_of l.pipe)) (block_of l.pipe l.from l.at);
}

abbrev pub decreases-loop-at : goal.decreases-loop-at
decreases-loop-at g l = l.to - l.at
