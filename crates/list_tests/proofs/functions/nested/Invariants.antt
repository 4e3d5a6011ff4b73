use Rattle.std.proofs.Common.{◌≤◌, ◌+◌, ◌*◌}
use Rattle.scalar_expr.specs.Expr.{nodes}
use Rattle.scalar_expr.specs.Views.{expr_of}
use Rattle.list_tests.proofs.functions.nested.Given as goal

abbrev pub invariant-loop-i : goal.invariant-loop-i
invariant-loop-i l = nodes (expr_of l.whole) ≤ 4 * l._i + 1
