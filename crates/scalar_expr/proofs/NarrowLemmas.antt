-- What the loops over 64-bit columns read.
use Rattle.std.proofs.Common.{◌≡◌, ℕ, ℤ, pos, List, get_or, refl, ap, ◌∙◌, to_z, of_z, FitsSigned}
use Rattle.std.specs.Int.{w64}
use Rattle.std.proofs.lemmas.Int.{to_z-of_z}
use Rattle.scalar_expr.specs.declared.step.Calc.{Calc}
use Rattle.scalar_expr.specs.declared.narrow.Source.{Source}
use Rattle.scalar_expr.specs.declared.narrow.Source.TheVariants.{Part, Place, Const, Held}
use Rattle.scalar_expr.specs.Steps.{made}
use Rattle.scalar_expr.specs.Lanes.{number_at}

number_same : (s : Source) (out before : List ℤ) (i : ℕ) → get_or out i (pos 0) ≡ get_or before i (pos 0) → number_at s out i ≡ number_at s before i
number_same (Part c) out before i h = refl
number_same (Place c) out before i h = refl
number_same (Const n) out before i h = refl
number_same Held out before i h = h

-- a number that was read
read_number : (s : Source) (out before : List ℤ) (i : ℕ) (x : ℤ) → get_or out i (pos 0) ≡ get_or before i (pos 0) → FitsSigned w64 x → x ≡ number_at s out i → to_z w64 (of_z w64 x) ≡ number_at s before i
read_number s out before i x same f is = to_z-of_z w64 x f ∙ is ∙ number_same s out before i same

pub made_at : (op : Calc) (a b : Source) (out before : List ℤ) (i : ℕ) (x y r : ℤ) → get_or out i (pos 0) ≡ get_or before i (pos 0) → FitsSigned w64 x → FitsSigned w64 y → FitsSigned w64 r
    → x ≡ number_at a out i → y ≡ number_at b out i → r ≡ made w64 op (to_z w64 (of_z w64 x)) (to_z w64 (of_z w64 y))
    → to_z w64 (of_z w64 r) ≡ made w64 op (number_at a before i) (number_at b before i)
made_at op a b out before i x y r same fx fy fr ix iy ir =
    to_z-of_z w64 r fr ∙ ir ∙ ap (λ u. made w64 op u (to_z w64 (of_z w64 y))) (read_number a out before i x same fx ix) ∙ ap (made w64 op (number_at a before i)) (read_number b out before i y same fy iy)
