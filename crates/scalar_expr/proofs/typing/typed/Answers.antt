use Rattle.std.proofs.Common.{sym}
use Rattle.scalar_expr.specs.Views.{scalars_of}
use Rattle.scalar_expr.proofs.Bounds.{all_bounded}
use Rattle.scalar_expr.proofs.typing.typed.Goals as goal

pub compile-requires-clause-bounded : goal.compile-requires-clause-bounded
compile-requires-clause-bounded c = all_bounded c.args.ty c.is_narrow.result (scalars_of c.args.f.now) c.in_ok-gives.gives (sym c.in_ok-gives.ensures.typed) c.in_ok-gives.ensures.plain c.is_narrow.ensures
