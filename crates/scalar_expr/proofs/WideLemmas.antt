-- What the loops over 128-bit columns read.
use Rattle.std.proofs.Common.{◌≡◌, ℕ, ℤ, pos, List, get_or, refl, ap, ◌∙◌, to_z, of_z, FitsSigned}
use Rattle.std.specs.Int.{w128}
use Rattle.std.proofs.lemmas.Int.{to_z-of_z}
use Rattle.scalar_expr.specs.declared.step.Calc.{Calc}
use Rattle.scalar_expr.specs.declared.wide.Source.{Source}
use Rattle.scalar_expr.specs.declared.wide.Source.TheVariants.{Narrow, Wide, Place, Const, Held}
use Rattle.scalar_expr.specs.Steps.{made}
use Rattle.scalar_expr.specs.Lanes.{wide_number_at}

number_same : (s : Source) (out before : List ℤ) (i : ℕ) → get_or out i (pos 0) ≡ get_or before i (pos 0) → wide_number_at s out i ≡ wide_number_at s before i
number_same (Narrow c) out before i h = refl
number_same (Wide c) out before i h = refl
number_same (Place c) out before i h = refl
number_same (Const n) out before i h = refl
number_same Held out before i h = h

-- a number that was read
read_number : (s : Source) (out before : List ℤ) (i : ℕ) (x : ℤ) → get_or out i (pos 0) ≡ get_or before i (pos 0) → FitsSigned w128 x → x ≡ wide_number_at s out i → to_z w128 (of_z w128 x) ≡ wide_number_at s before i
read_number s out before i x same f is = to_z-of_z w128 x f ∙ is ∙ number_same s out before i same

pub made_at : (op : Calc) (a b : Source) (out before : List ℤ) (i : ℕ) (x y r : ℤ) → get_or out i (pos 0) ≡ get_or before i (pos 0) → FitsSigned w128 x → FitsSigned w128 y → FitsSigned w128 r
    → x ≡ wide_number_at a out i → y ≡ wide_number_at b out i → r ≡ made w128 op (to_z w128 (of_z w128 x)) (to_z w128 (of_z w128 y))
    → to_z w128 (of_z w128 r) ≡ made w128 op (wide_number_at a before i) (wide_number_at b before i)
made_at op a b out before i x y r same fx fy fr ix iy ir =
    to_z-of_z w128 r fr ∙ ir ∙ ap (λ u. made w128 op u (to_z w128 (of_z w128 y))) (read_number a out before i x same fx ix) ∙ ap (made w128 op (wide_number_at a before i)) (read_number b out before i y same fy iy)
