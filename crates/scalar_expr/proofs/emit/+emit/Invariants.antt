use Rattle.std.proofs.Common.{◌+◌, ◌*◌}
use Rattle.scalar_expr.specs.Expr.{nodes}
use Rattle.scalar_expr.specs.Views.{expr_of}
use Rattle.scalar_expr.proofs.emit.+emit.Given as goal

abbrev pub decreases-emit : goal.decreases-emit
decreases-emit l = 2 * nodes (expr_of l.s.now)

abbrev pub decreases-emit_two : goal.decreases-emit_two
decreases-emit_two l = 2 * (nodes (expr_of l.a.now) + nodes (expr_of l.b.now)) + 1

abbrev pub decreases-emit_one : goal.decreases-emit_one
decreases-emit_one l = 2 * nodes (expr_of l.a.now) + 1

abbrev pub decreases-emit_choice : goal.decreases-emit_choice
decreases-emit_choice l = 2 * (nodes (expr_of l.c.now) + nodes (expr_of l.a.now) + nodes (expr_of l.b.now)) + 1
