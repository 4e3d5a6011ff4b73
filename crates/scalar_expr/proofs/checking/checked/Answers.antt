use Rattle.std.proofs.Common.{refl, sym, subst}
use Rattle.scalar_expr.specs.Views.{expr_of}
use Rattle.scalar_expr.specs.Walk.{Gives}
use Rattle.scalar_expr.proofs.Faults.{checked_deep, checked_walk}
use Rattle.scalar_expr.proofs.checking.checked.Goals as goal

pub returns-then-is_deeper-clause-gives : goal.returns-then-is_deeper-clause-gives
returns-then-is_deeper-clause-gives c = checked_deep c.args.ty c.args.place (expr_of c.args.s.now) c.deep_fault.result c.deep_fault.ensures

pub returns-clause-gives : goal.returns-clause-gives
returns-clause-gives c = subst (Gives c.measured.result) (sym (checked_walk c.args.ty c.args.place (expr_of c.args.s.now) (c.if-is_deeper.ensures.shallow refl))) c.measured.ensures.gives
