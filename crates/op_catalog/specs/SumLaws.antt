-- Sums obey the laws of operators.
use Rattle.std.proofs.Common.{ℕ, ◌-◌, ◌*◌, ◌+◌, ◌^◌, ◌≤◌, min, ℤ, pos, ◌+ℤ◌, List, [], ◌∷◌, FitsSigned, arith, inl, inr}
use Rattle.std.specs.Int.{w128}
use Rattle.std.proofs.Math.Pow.{pow_mono}
use Rattle.std.proofs.Math.Nat.{mul-le-mul_left, mul-le-mul_right}
use Rattle.std.proofs.lemmas.Int.{ints}
use Rattle.op_laws.specs.declared.TheConstants.{MAX_ELEMENTS}
use Rattle.op_laws.specs.declared.width.Width.{Width}
use Rattle.op_laws.specs.Admits.{Admits}
use Rattle.op_laws.specs.Laws.{LiftLaws, CombineLaws, UnitLaws, CommuteLaws}
use Rattle.op_catalog.specs.Numbers.{number_of}
use Rattle.op_catalog.specs.Sums.{IsSummed, sum_type, IsSumOf}

-- no bound is past that of 96 bits
power_small : (W : ℕ) → 2 ^ min (W - 1) 95 ≤ 2 ^ 95
power_small W = pow_mono {i = min (W - 1) 95} {j = 95} (omega arith)

total_small : (W n : ℕ) → n ≤ MAX_ELEMENTS → n * 2 ^ min (W - 1) 95 + 2 ^ 95 ≤ 2 ^ 127
total_small W n few = let at_most : n * 2 ^ min (W - 1) 95 ≤ n * 2 ^ 95 = mul-le-mul_left n (power_small W) in omega arith

-- the sum of so few numbers is one of 128 bits
pub sum_is_signed : (W : ℕ) (c : ℤ) (n : ℕ) → n ≤ MAX_ELEMENTS → IsSumOf W c n → FitsSigned w128 c
sum_is_signed W c n few fits = let small = total_small W n few in omega (arith, ints)

lifted_fits : (W : ℕ) (ty : List Width) (e : List ℤ) → IsSummed W ty → Admits ty e → IsSumOf W (number_of e) 1
lifted_fits W ty [] (inl is) admitted = absurd (rw is.1 at admitted)
lifted_fits W ty [] (inr is) admitted = absurd (rw is.1 at admitted)
lifted_fits W ty (x ∷ xs) (inl is) admitted = let fits = rw is.1 at admitted in rw is.0 (record { low = omega (arith, ints, fits.0.low); high = omega (arith, ints, fits.0.high) })
lifted_fits W ty (x ∷ xs) (inr is) admitted = let fits = rw is.1 at admitted in rw is.0 (record { low = omega (arith, ints, fits.0.low); high = omega (arith, ints, fits.0.high) })

finished_admitted : (W : ℕ) (ty : List Width) (c : ℤ) (n : ℕ) → IsSummed W ty → n ≤ MAX_ELEMENTS → IsSumOf W c n → Admits (sum_type W) (c ∷ [])
finished_admitted W ty c n (inl is) few sum = let fits = rw is.0 at sum in rw is.0 (record { low = omega (arith, ints, fits.low); high = omega (arith, ints, fits.high) }, tt)
finished_admitted W ty c n (inr is) few sum = let fits = rw is.0 at sum in rw is.0 (record { low = omega (arith, ints, fits.low); high = omega (arith, ints, fits.high) }, tt)

pub sum_lift_laws : (W : ℕ) → LiftLaws (IsSummed W) (λ _. sum_type W) number_of (λ c. c ∷ []) (IsSumOf W)
sum_lift_laws W = record {
  grows = λ c m n le fits. let more : m * 2 ^ min (W - 1) 95 ≤ n * 2 ^ min (W - 1) 95 = mul-le-mul_right _ le in record { low = omega (arith, ints); high = omega (arith, ints) };
  lifted_fits = lifted_fits W;
  finished_admitted = finished_admitted W;
}

pub sum_combine_laws : (W : ℕ) → CombineLaws (λ a b. a +ℤ b) (IsSumOf W)
sum_combine_laws W = record {
  combined_fits = λ a m b n few fa fb. record { low = omega (arith, ints); high = omega (arith, ints) };
  associative = λ a l b m c n few fa fb fc. omega (arith, ints);
}

pub sum_unit_laws : (W : ℕ) → UnitLaws (pos 0) (λ a b. a +ℤ b) (IsSumOf W)
sum_unit_laws W = record {
  nothing_fits = record { low = omega (arith, ints); high = omega (arith, ints) };
  left = λ a n few fits. omega (arith, ints);
  right = λ a n few fits. omega (arith, ints);
}

pub sum_commute_laws : (W : ℕ) → CommuteLaws (λ a b. a +ℤ b) (IsSumOf W)
sum_commute_laws W = record { commutative = λ a m b n few fa fb. omega (arith, ints) }

-- the sum of two numbers that the weights keep small
pub sums_signed : (W : ℕ) (a : ℤ) (m : ℕ) (b : ℤ) (n : ℕ) → m + n ≤ MAX_ELEMENTS → IsSumOf W a m → IsSumOf W b n → FitsSigned w128 (a +ℤ b)
sums_signed W a m b n few fa fb = sum_is_signed W _ (m + n) few ((sum_combine_laws W).combined_fits a m b n few fa fb)
