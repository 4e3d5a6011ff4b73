-- The least and the greatest of numbers.
use Rattle.std.specs.Prelude.{◌≡◌, ◌⊎◌, ℕ, ◌-◌, ◌^◌, ℤ, pos, neg_ℤ, ◌≤ℤ◌, List, [], ◌∷◌, Contains}
use Rattle.std.specs.List.{fold, All}
use Rattle.std.specs.Int.{int_min, int_max}
use Rattle.op_laws.specs.declared.width.Width.{Width}
use Rattle.op_laws.specs.Widths.{width_bits, FitsWidth}
use Rattle.op_catalog.specs.Numbers.{width_of}

-- the least and the greatest number of a width
abbrev pub bottom : Width → ℤ
bottom w = neg_ℤ (pos (2 ^ width_bits w))

abbrev pub top : Width → ℤ
top w = pos (2 ^ width_bits w - 1)

-- the least of numbers; of none, the number `end`
abbrev pub least_of : ℤ → List ℤ → ℤ
least_of end [] = end
least_of end (x ∷ xs) = fold int_min x xs

-- the greatest of numbers; of none, the number `end`
abbrev pub greatest_of : ℤ → List ℤ → ℤ
greatest_of end [] = end
greatest_of end (x ∷ xs) = fold int_max x xs

-- r is one of the numbers, and none is less; or there is none, and r is the number `end`
pub record IsLeast (end : ℤ) (xs : List ℤ) (r : ℤ) : Type 0 where
  pub bound : All (λ x. r ≤ℤ x) xs
  pub reached : Contains xs r ⊎ ((xs ≡ []) × (r ≡ end))

-- the same of the greatest
pub record IsGreatest (end : ℤ) (xs : List ℤ) (r : ℤ) : Type 0 where
  pub bound : All (λ x. x ≤ℤ r) xs
  pub reached : Contains xs r ⊎ ((xs ≡ []) × (r ≡ end))

-- one number of W bits, where W is 64, 96 or 128
pub record IsBounded (W : ℕ) (ty : List Width) : Type 0 where
  pub known : (W ≡ 64) ⊎ (W ≡ 96) ⊎ (W ≡ 128)
  pub one : ty ≡ width_of W ∷ []

-- a number of the width of W bits, of any weight
abbrev pub IsInWidth : ℕ → ℤ → ℕ → Type 0
IsInWidth W c _ = FitsWidth (width_of W) c
