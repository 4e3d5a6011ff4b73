use Rattle.std.proofs.Common.{◌+◌, ◌*◌}
use Rattle.scalar_expr.specs.Expr.{nodes}
use Rattle.scalar_expr.specs.Views.{expr_of}
use Rattle.fuse_rewrite.proofs.function_text.+scalar.Given as goal

abbrev pub decreases-write_scalar : goal.decreases-write_scalar
decreases-write_scalar g l = 8 * nodes (expr_of l.s.now) + 0

abbrev pub decreases-write_after : goal.decreases-write_after
decreases-write_after g l = 8 * nodes (expr_of l.a.now) + 1

abbrev pub decreases-write_last : goal.decreases-write_last
decreases-write_last g l = 8 * nodes (expr_of l.a.now) + 2

abbrev pub decreases-write_last_two : goal.decreases-write_last_two
decreases-write_last_two g l = 8 * (nodes (expr_of l.a.now) + nodes (expr_of l.b.now)) + 3

abbrev pub decreases-write_last_three : goal.decreases-write_last_three
decreases-write_last_three g l = 8 * (nodes (expr_of l.a.now) + nodes (expr_of l.b.now) + nodes (expr_of l.c.now)) + 4

abbrev pub decreases-write_one : goal.decreases-write_one
decreases-write_one g l = 8 * nodes (expr_of l.a.now) + 5

abbrev pub decreases-write_two : goal.decreases-write_two
decreases-write_two g l = 8 * (nodes (expr_of l.a.now) + nodes (expr_of l.b.now)) + 6

abbrev pub decreases-write_three : goal.decreases-write_three
decreases-write_three g l = 8 * (nodes (expr_of l.a.now) + nodes (expr_of l.b.now) + nodes (expr_of l.c.now)) + 7
