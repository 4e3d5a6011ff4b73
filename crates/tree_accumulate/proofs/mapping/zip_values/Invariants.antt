use Rattle.std.proofs.Common.{◌≡◌, ◌++◌, take}
use Rattle.op_laws.specs.Lists.{zipped}
use Rattle.tree_accumulate.proofs.mapping.zip_values.Given as goal

abbrev pub invariant-loop-i : goal.invariant-loop-i
invariant-loop-i l = record {
  ty : l.out.ty ≡ l.xs.ty ++ l.ys.ty;
  items : l.out.items ≡ zipped (take l.i l.xs.items) (take l.i l.ys.items);
}
