use Rattle.std.proofs.Common.{◌≡◌, ◌+◌, drop}
use Rattle.std.specs.List.{fold}
use Rattle.op_laws.specs.Elements.{singles}
use Rattle.op_laws.specs.Folds.{step}
use Rattle.list_fusion.proofs.numbers.fold_on.Given as goal

-- the answer to the whole is the answer from this state to what is left
abbrev pub invariant-loop-i : goal.invariant-loop-i
invariant-loop-i g l = record {
  value : fold (step (g.M.Lifted.lifted l.op) (g.M.Semi.combined l.op)) l.total (singles (drop l.i l.numbers)) ≡ fold (step (g.M.Lifted.lifted l.op) (g.M.Semi.combined l.op)) l.fn.c (singles l.numbers);
  fits : g.M.Lifted.fits l.op l.total (l.n + l.i);
}
