-- Pairs that don't abide: four values of which the two sides of the law differ. The law is (a across b) down (c across d) ≡ (a down c) across (b down d).
use Rattle.std.proofs.Common.{◌≡◌, ℕ, ◌<◌, ◌^◌, pos, negsuc, ◌+ℤ◌, [], ◌∷◌, refl, ap, ◌∙◌, arith}
use Rattle.std.specs.Int.{w64, int_wrap, int_min}
use Rattle.std.proofs.lemmas.Int.{ints, int_wrap_fits}
use Rattle.op_catalog.specs.Products.{wrapped_product}
use Rattle.op_catalog.specs.WordLaws.{FitsSigned-word}
use Rattle.op_catalog.specs.Segments.{of_one, joined, best_of}

abbrev by_rows : {C : Type 0} → (C → C → C) → (C → C → C) → C → C → C → C → C
by_rows down across a b c d = down (across a b) (across c d)

abbrev by_columns : {C : Type 0} → (C → C → C) → (C → C → C) → C → C → C → C → C
by_columns down across a b c d = across (down a c) (down b d)

-- add and min
sum_of_least : by_rows (λ a b. a +ℤ b) int_min (pos 1) (pos 2) (pos 2) (pos 1) ≡ pos 2
sum_of_least = refl

least_of_sums : by_columns (λ a b. a +ℤ b) int_min (pos 1) (pos 2) (pos 2) (pos 1) ≡ pos 3
least_of_sums = refl

-- add and mul
small : (n : ℕ) → n < 2 ^ 63 → int_wrap w64 (pos n) ≡ pos n
small n few = int_wrap_fits w64 (pos n) (FitsSigned-word (pos n) (record { low = omega (arith, ints); high = omega (arith, ints) }))

sum_of_products : by_rows (λ a b. a +ℤ b) wrapped_product (pos 1) (pos 2) (pos 3) (pos 4) ≡ pos 14
sum_of_products = ap (λ t. t +ℤ int_wrap w64 (pos 12)) (small 2 (omega arith)) ∙ ap (λ t. pos 2 +ℤ t) (small 12 (omega arith))

product_of_sums : by_columns (λ a b. a +ℤ b) wrapped_product (pos 1) (pos 2) (pos 3) (pos 4) ≡ pos 24
product_of_sums = small 24 (omega arith)

-- mss with itself
segment_by_rows : best_of (by_rows joined joined (of_one (pos 1 ∷ [])) (of_one (negsuc 0 ∷ [])) (of_one (pos 1 ∷ [])) (of_one (pos 0 ∷ []))) ≡ pos 1 ∷ []
segment_by_rows = refl

segment_by_columns : best_of (by_columns joined joined (of_one (pos 1 ∷ [])) (of_one (negsuc 0 ∷ [])) (of_one (pos 1 ∷ [])) (of_one (pos 0 ∷ []))) ≡ pos 2 ∷ []
segment_by_columns = refl
