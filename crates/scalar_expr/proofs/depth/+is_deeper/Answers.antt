use Rattle.std.proofs.Common.{arith}
use Rattle.scalar_expr.specs.Views.{expr_of}
use Rattle.scalar_expr.proofs.Nodes.{has_depth}
use Rattle.scalar_expr.proofs.depth.+is_deeper.Goals as goal

pub returns-then-depth-eq0-clause-deeper : goal.returns-then-depth-eq0-clause-deeper
returns-then-depth-eq0-clause-deeper t c = λ _. omega (arith, has_depth (expr_of c.args.s.now))
