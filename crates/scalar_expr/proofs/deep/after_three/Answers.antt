use Rattle.std.proofs.Common.{◌++◌}
use Rattle.scalar_expr.specs.Expr.{postorder}
use Rattle.scalar_expr.specs.Views.{expr_of}
use Rattle.scalar_expr.proofs.deep.after_three.Goals as goal

pub returns-in-Err-clause-leads : goal.returns-in-Err-clause-leads
returns-in-Err-clause-leads c = λ ys. c.in-Err.ensures.leads (postorder (expr_of c.args.a.now) ++ (postorder (expr_of c.args.b.now) ++ ys))
