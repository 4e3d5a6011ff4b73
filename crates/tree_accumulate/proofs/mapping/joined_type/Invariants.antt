use Rattle.std.proofs.Common.{◌≡◌, ◌++◌, take}
use Rattle.tree_accumulate.proofs.mapping.joined_type.Given as goal

abbrev pub invariant-loop-i : goal.invariant-loop-i
invariant-loop-i l = l.ty ≡ l.fn.a ++ take l.i l.b
