use Rattle.std.proofs.Common.{◌+◌, ◌*◌}
use Rattle.scalar_expr.specs.Expr.{nodes}
use Rattle.scalar_expr.specs.Views.{expr_of}
use Rattle.scalar_expr.proofs.widths.+measured.Given as goal

abbrev pub decreases-measured : goal.decreases-measured
decreases-measured l = 2 * nodes (expr_of l.s.now)

abbrev pub decreases-measured_two : goal.decreases-measured_two
decreases-measured_two l = 2 * (nodes (expr_of l.a.now) + nodes (expr_of l.b.now)) + 1
