-- What a typed function is seen as.
use Rattle.std.specs.Prelude.{List}
use Rattle.op_laws.specs.declared.width.Width.{Width}
use Rattle.scalar_expr.specs.Expr.{Expr}

-- its scalars, the type of the elements that it takes, and the type of those that it gives
pub record Function : Type 0 where
  pub scalars : List Expr
  pub takes : List Width
  pub gives : List Width
