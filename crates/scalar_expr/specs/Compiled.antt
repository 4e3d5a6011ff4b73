-- How a typed function is kept: words on the layout, which no public clause cites.
use Rattle.std.specs.Prelude.{◌≡◌, ℕ, ◌≤◌, Bool, List, [], length, Ok}
use Rattle.std.specs.List.{AllByRecursion}
use Rattle.op_laws.specs.declared.width.Width.{Width}
use Rattle.scalar_expr.specs.declared.step.Step.{Step}
use Rattle.scalar_expr.specs.Expr.{Expr, HasSmallLiterals}
use Rattle.scalar_expr.specs.Typing.{typed}
use Rattle.scalar_expr.specs.Columns.{room_of, is_narrow}
use Rattle.scalar_expr.specs.Steps.{built, height_after, AreSafe, AreExact}

-- the steps are those of the scalars, which have these types
pub record IsCompiled (ty gives : List Width) (room : ℕ) (narrow : Bool) (scalars : List Expr) (steps : List Step) : Type 0 where
  pub typed_as : typed ty scalars ≡ Ok gives
  pub small : AllByRecursion HasSmallLiterals scalars
  pub room_is : room ≡ room_of scalars
  pub room_within : room ≤ 64
  pub narrow_is : narrow ≡ is_narrow ty scalars
  pub height : height_after steps 0 ≡ length scalars
  pub safe : AreSafe (length ty) room steps 0
  pub exact : AreExact ty narrow steps []
