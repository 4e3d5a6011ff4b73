use Rattle.std.proofs.Common.{◌≡◌, ◌+◌, ◌-◌, ◌≤◌, reverse, IfSome}
use Rattle.std.specs.List.{All}
use Rattle.op_laws.specs.Admits.{Admits}
use Rattle.op_laws.specs.Folds.{fold_of, beside}
use Rattle.list_fusion.specs.Pipes.{type_of, block_of}
use Rattle.list_fusion.specs.Scans.{scanr_before}
use Rattle.list_fusion.proofs.scan.scan_columns_back.Given as goal

abbrev pub invariant-loop-at : goal.invariant-loop-at
invariant-loop-at g l = record {
  first : l.from ≤ l.at;
  within : l.at ≤ l.to;
  ty : l.list.ty ≡ g.M.Lifted.gives l.op (type_of l.pipe);
  value : l.held ≡ beside (g.M.Semi.combined l.op) (fold_of (g.M.Lifted.lifted l.op) (g.M.Semi.combined l.op) (block_of l.pipe l.at l.to)) l.fn.behind;
  fits : IfSome l.held (λ c. g.M.Lifted.fits l.op c (l.nb + (l.to - l.at)));
  items : l.list.items ≡ reverse (scanr_before (g.M.Lifted.finished l.op) (g.M.Lifted.lifted l.op) (g.M.Semi.combined l.op) l.fn.behind (block_of l.pipe l.at l.to));
  admitted : All (Admits (type_of l.pipe)) (block_of l.pipe l.at l.to);
}

abbrev pub decreases-loop-at : goal.decreases-loop-at
decreases-loop-at g l = l.at - l.from
