use Rattle.std.proofs.Common.{◌∙◌}
use Rattle.scalar_expr.specs.Views.{scalars_of}
use Rattle.scalar_expr.proofs.Faults.{type_is}
use Rattle.scalar_expr.proofs.checking.type_of.Goals as goal

pub returns-clause-typed : goal.returns-clause-typed
returns-clause-typed c = c.scalar_types.ensures.typed ∙ type_is c.args.ty 0 (scalars_of c.args.f.now)
