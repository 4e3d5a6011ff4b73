-- How scalars and functions of the code are seen.
use Rattle.std.specs.Prelude.{ℕ, List, [], ◌∷◌, length}
use Rattle.std.specs.List.{flat_map}
use Rattle.scalar_expr.specs.declared.pair.Pair.TheVariants as pair
use Rattle.scalar_expr.specs.declared.scalar.Scalar.{Scalar}
use Rattle.scalar_expr.specs.declared.scalar.Scalar.TheVariants.{Lit, Part, Add', Sub', Mul', Min', Max', Less', Same', And', Or', Xor', Cond', Wrap'}
use Rattle.scalar_expr.specs.declared.func.Func.{Func}
use Rattle.scalar_expr.specs.declared.func.Func.TheVariants.{One, Two, Three, Four}
use Rattle.scalar_expr.specs.Expr.{Expr, lit, part, two, cond, wrap, postorder}

abbrev pub expr_of : Scalar → Expr
expr_of (Lit n) = lit n
expr_of (Part i) = part i
expr_of (Add' p a q b) = two pair.Add (expr_of a) (expr_of b)
expr_of (Sub' p a q b) = two pair.Sub (expr_of a) (expr_of b)
expr_of (Mul' p a q b) = two pair.Mul (expr_of a) (expr_of b)
expr_of (Min' p a q b) = two pair.Min (expr_of a) (expr_of b)
expr_of (Max' p a q b) = two pair.Max (expr_of a) (expr_of b)
expr_of (Less' p a q b) = two pair.Less (expr_of a) (expr_of b)
expr_of (Same' p a q b) = two pair.Same (expr_of a) (expr_of b)
expr_of (And' p a q b) = two pair.And (expr_of a) (expr_of b)
expr_of (Or' p a q b) = two pair.Or (expr_of a) (expr_of b)
expr_of (Xor' p a q b) = two pair.Xor (expr_of a) (expr_of b)
expr_of (Cond' p c q a r b) = cond (expr_of c) (expr_of a) (expr_of b)
expr_of (Wrap' p a) = wrap (expr_of a)

-- the scalars of a function
abbrev pub scalars_of : Func → List Expr
scalars_of (One a) = expr_of a ∷ []
scalars_of (Two a b) = expr_of a ∷ expr_of b ∷ []
scalars_of (Three a b c) = expr_of a ∷ expr_of b ∷ expr_of c ∷ []
scalars_of (Four a b c d) = expr_of a ∷ expr_of b ∷ expr_of c ∷ expr_of d ∷ []
