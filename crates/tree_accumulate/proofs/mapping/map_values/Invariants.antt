use Rattle.std.proofs.Common.{◌≡◌, map, take}
use Rattle.scalar_expr.specs.Values.{values_of}
use Rattle.tree_accumulate.proofs.mapping.map_values.Given as goal

abbrev pub invariant-loop-i : goal.invariant-loop-i
invariant-loop-i l = record {
  ty : l.out.ty ≡ l.f.gives;
  items : l.out.items ≡ map (values_of l.f.scalars) (take l.i l.xs.items);
}
