-- Sums.
use Rattle.std.specs.Prelude.{◌≡◌, ◌⊎◌, ℕ, ◌-◌, ◌*◌, ◌^◌, min, if◌then◌else◌, ◌==◌, ℤ, pos, neg_ℤ, ◌+ℤ◌, ◌≤ℤ◌, List, [], ◌∷◌}
use Rattle.op_laws.specs.declared.width.Width.{Width}
use Rattle.op_laws.specs.declared.width.Width.TheVariants.{W64, W96, W128}

-- the sum of numbers
abbrev pub sum_of : List ℤ → ℤ
sum_of [] = pos 0
sum_of (x ∷ xs) = x +ℤ sum_of xs

-- one number of W bits, where W is 64 or 96
abbrev pub IsSummed : ℕ → List Width → Type 0
IsSummed W ty = ((W ≡ 64) × (ty ≡ W64 ∷ [])) ⊎ ((W ≡ 96) × (ty ≡ W96 ∷ []))

-- one number of the width after that of W bits
abbrev pub sum_type : ℕ → List Width
sum_type W = (if W == 64 then W96 else W128) ∷ []

-- c is between n times the least and n times the greatest number of W bits; of 96, where W is more
pub record IsSumOf (W : ℕ) (c : ℤ) (n : ℕ) : Type 0 where
  pub low : neg_ℤ (pos (n * 2 ^ min (W - 1) 95)) ≤ℤ c
  pub high : c ≤ℤ pos (n * 2 ^ min (W - 1) 95)
