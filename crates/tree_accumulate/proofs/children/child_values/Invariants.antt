use Rattle.std.proofs.Common.{◌≡◌, take}
use Rattle.op_laws.specs.Trees.{column}
use Rattle.tree_accumulate.specs.Children.{child_at}
use Rattle.tree_accumulate.proofs.children.child_values.Given as goal

abbrev pub invariant-loop-i : goal.invariant-loop-i
invariant-loop-i l = record {
  ty : l.out.ty ≡ l.t.ty;
  items : l.out.items ≡ take l.i (column (child_at l.right l.leaf) l.t.tree);
}
