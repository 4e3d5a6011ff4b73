use Rattle.std.proofs.Common.{◌≡◌}
use Rattle.list_tests.proofs.operators.list_of.Given as goal

abbrev pub invariant-loop-t : goal.invariant-loop-t
invariant-loop-t g l = l.list.ty ≡ l.ty
