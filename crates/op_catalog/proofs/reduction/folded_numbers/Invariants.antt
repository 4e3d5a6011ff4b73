use Rattle.std.proofs.Common.{◌≡◌, take}
use Rattle.op_laws.specs.Elements.{singles}
use Rattle.op_laws.specs.Folds.{fold_or}
use Rattle.op_catalog.proofs.reduction.folded_numbers.Given as goal

abbrev pub invariant-loop-i : goal.invariant-loop-i
invariant-loop-i g l = record {
  value : l.total ≡ fold_or (g.M.Monoid.nothing l.op) (g.M.Lifted.lifted l.op) (g.M.Semi.combined l.op) (take l.i (singles l.numbers));
  fits : g.M.Lifted.fits l.op l.total l.i;
}
