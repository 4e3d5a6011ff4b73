use Rattle.std.proofs.Common.{◌≡◌, ◌+◌, ◌-◌, IfSome}
use Rattle.std.specs.List.{All}
use Rattle.op_laws.specs.Admits.{Admits}
use Rattle.op_laws.specs.Folds.{fold_of, beside}
use Rattle.list_fusion.specs.Pipes.{type_of, block_of}
use Rattle.list_fusion.specs.Scans.{scan_after}
use Rattle.list_fusion.proofs.scan.scan_on.Given as goal

abbrev pub invariant-loop-i : goal.invariant-loop-i
invariant-loop-i g l = record {
  ty : l.list.ty ≡ g.M.Lifted.gives l.op (type_of l.pipe);
  value : l.held ≡ beside (g.M.Semi.combined l.op) l.fn.before (fold_of (g.M.Lifted.lifted l.op) (g.M.Semi.combined l.op) (block_of l.pipe l.from l.i));
  fits : IfSome l.held (λ c. g.M.Lifted.fits l.op c (l.nb + (l.i - l.from)));
  items : l.list.items ≡ scan_after (g.M.Lifted.finished l.op) (g.M.Lifted.lifted l.op) (g.M.Semi.combined l.op) l.fn.before (block_of l.pipe l.from l.i);
  admitted : All (Admits (type_of l.pipe)) (block_of l.pipe l.from l.i);
}
