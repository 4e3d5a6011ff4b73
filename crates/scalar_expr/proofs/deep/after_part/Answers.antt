use Rattle.std.proofs.Common.{refl}
use Rattle.scalar_expr.specs.Views.{expr_of}
use Rattle.scalar_expr.specs.Walk.{Leads}
use Rattle.scalar_expr.proofs.Faults.{deep_first, fault_first, passed}
use Rattle.scalar_expr.proofs.deep.after_part.Goals as goal

pub returns-then-is_deeper-clause-leads : goal.returns-then-is_deeper-clause-leads
unfolding Leads
returns-then-is_deeper-clause-leads c = λ ys. (deep_first c.args.ty c.args.place (expr_of c.args.s.now) ys (c.if-is_deeper.ensures.deeper refl), c.if-is_deeper.ensures.deeper refl)

pub returns-in-Ok-clause-passed : goal.returns-in-Ok-clause-passed
returns-in-Ok-clause-passed c = λ ys. passed c.args.ty c.args.place (expr_of c.args.s.now) c.in-Ok.measure.width c.in-Ok.measure.after ys (c.if-is_deeper.ensures.shallow refl) c.in-Ok.ensures.gives c.in-Ok.ensures.after

pub returns-in-Err-clause-leads : goal.returns-in-Err-clause-leads
unfolding Leads
returns-in-Err-clause-leads c = λ ys. fault_first c.args.ty c.args.place (expr_of c.args.s.now) c.in-Err.fault ys (c.if-is_deeper.ensures.shallow refl) c.in-Err.ensures.gives
