-- The bits of numbers of w64, in two's complement: bit 0 is the lowest, and bit 63 is set in the numbers below 0.
use Rattle.std.specs.Prelude.{◌≡◌, ℕ, zero, suc, ◌+◌, ◌*◌, ◌%◌, ◌^◌, ◌<◌, ◌==◌, if◌then◌else◌, Bool, ℤ, List, count_by}
use Rattle.std.specs.List.{list_all, list_any}
use Rattle.std.specs.Int.{w64, bit_at, cast_signed, cast_unsigned}
use Rattle.op_laws.specs.declared.width.Width.TheVariants.{W64}
use Rattle.op_laws.specs.Widths.{FitsWidth}

-- bit k of x is 1
abbrev pub is_set : ℕ → ℤ → Bool
is_set k x = bit_at (cast_unsigned w64 x) k == 1

-- bit k is set in all, in some, in an odd number of the numbers
abbrev pub set_in_all : List ℤ → ℕ → Bool
set_in_all xs k = list_all (is_set k) xs

abbrev pub set_in_some : List ℤ → ℕ → Bool
set_in_some xs k = list_any (is_set k) xs

abbrev pub set_in_odd : List ℤ → ℕ → Bool
set_in_odd xs k = count_by (is_set k) xs % 2 == 1

-- the number below 2^n that has the bits that `told` tells
abbrev pub sum_of_bits : (ℕ → Bool) → ℕ → ℕ
sum_of_bits told zero = 0
sum_of_bits told (suc n) = (if told n then 1 else 0) * 2 ^ n + sum_of_bits told n

-- the number of w64 that has the bits that `told` tells
unfoldable pub number_with : (ℕ → Bool) → ℤ
number_with told = cast_signed w64 (sum_of_bits told 64)

-- x is that number
pub record HasBits (told : ℕ → Bool) (x : ℤ) : Type 0 where
  pub word : FitsWidth W64 x
  pub bits : (k : ℕ) → k < 64 → is_set k x ≡ told k
