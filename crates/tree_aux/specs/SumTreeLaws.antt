-- Sums over trees and along paths obey the laws.
use Rattle.std.proofs.Common.{ℕ, ◌-◌, ◌+◌, ◌^◌, ◌≤◌, min, ℤ, pos, ◌+ℤ◌, List, [], ◌∷◌, FitsSigned, inl, inr, refl, arith}
use Rattle.std.specs.Int.{w128}
use Rattle.std.proofs.lemmas.Int.{ints}
use Rattle.std.proofs.Math.Pow.{pow_mono}
use Rattle.op_laws.specs.declared.TheConstants.{MAX_ELEMENTS}
use Rattle.op_laws.specs.declared.width.Width.{Width}
use Rattle.op_laws.specs.declared.width.Width.TheVariants.{W64}
use Rattle.op_laws.specs.Widths.{FitsWidth}
use Rattle.op_laws.specs.Admits.{Admits}
use Rattle.op_laws.specs.Laws.{LiftLaws}
use Rattle.op_laws.specs.TreeLaws.{UpwardLaws, NothingLaws, DownwardLaws, AcrossLaws}
use Rattle.op_catalog.specs.Numbers.{number_of}
use Rattle.op_catalog.specs.Sums.{IsSummed, sum_type, IsSumOf}
use Rattle.op_catalog.specs.SumLaws.{sum_lift_laws, sum_combine_laws, sum_is_signed}
use Rattle.tree_aux.specs.SumTrees.{plus, naught, one, one_more, single, sum_up, rose_sum_up, path_sum_down, turns_down, pre_down, rose_path_sum_down, IsAny, turns_type}
use Rattle.tree_aux.specs.JoinedLaws.{IsJoin, joins_up_laws, joins_down_laws}

pub is_join : (W : ℕ) → IsJoin (IsSumOf W) plus
is_join W = record {
  closed = (sum_combine_laws W).combined_fits;
  associative = λ a b c. omega (arith, ints);
  commutative = λ a b. omega (arith, ints);
}

-- a power is at least 1
power_some : (W : ℕ) → 1 ≤ 2 ^ min (W - 1) 95
power_some W = pow_mono {i = 0} {j = min (W - 1) 95} (omega arith)

pub naught_fits : (W n : ℕ) → IsSumOf W (pos 0) n
naught_fits W n = record { low = omega (arith, ints); high = omega (arith, ints) }

pub one_fits : (W : ℕ) → IsSumOf W (pos 1) 1
one_fits W = let p = power_some W in record { low = omega (arith, ints); high = omega (arith, ints) }

pub wider : (W : ℕ) (c : ℤ) (m n : ℕ) → m ≤ n → IsSumOf W c m → IsSumOf W c n
wider W c m n = (sum_lift_laws W).grows c m n

pub number_fits : (W : ℕ) (ty : List Width) (e : List ℤ) → IsSummed W ty → Admits ty e → IsSumOf W (number_of e) 1
number_fits W = (sum_lift_laws W).lifted_fits

number_fits_2 : (W : ℕ) (ty : List Width) (e : List ℤ) → IsSummed W ty → Admits ty e → IsSumOf W (number_of e) 2
number_fits_2 W ty e taken admitted = wider W (number_of e) 1 2 (omega arith) (number_fits W ty e taken admitted)

-- a number of w64 is one of each width that sums are taken of
start_fits : (W : ℕ) → 64 ≤ W → (c : ℤ) → FitsWidth W64 c → IsSumOf W c 1
start_fits W wide c f =
    let p : 2 ^ 63 ≤ 2 ^ min (W - 1) 95 = pow_mono {i = 63} {j = min (W - 1) 95} (omega arith) in
    record { low = omega (arith, ints, f.low); high = omega (arith, ints, f.high) }

pub sum_up_laws : (W : ℕ) → UpwardLaws (IsSummed W) (λ _. sum_type W) sum_up single (IsSumOf W) (IsSumOf W)
sum_up_laws W = joins_up_laws (sum_lift_laws W) (is_join W) number_of (number_fits W)

pub rose_sum_up_laws : (W : ℕ) → UpwardLaws (IsSummed W) (λ _. sum_type W) rose_sum_up single (IsSumOf W) (IsSumOf W)
rose_sum_up_laws W = joins_up_laws (sum_lift_laws W) (is_join W) naught (λ ty e taken admitted. naught_fits W 1)

pub rose_sum_nothing_laws : (W : ℕ) → NothingLaws (pos 0) rose_sum_up (IsSumOf W)
rose_sum_nothing_laws W = record { nothing_fits = naught_fits W 1; leaf_is_nothing = λ e. refl }

-- a type of sums is of at least 64 bits
pub summed_wide : (W : ℕ) (ty : List Width) → IsSummed W ty → 64 ≤ W
summed_wide W ty (inl is) = omega arith
summed_wide W ty (inr is) = omega arith

pub path_sum_down_laws : (W : ℕ) → 64 ≤ W → DownwardLaws (IsSummed W) (λ _. sum_type W) path_sum_down single (IsSumOf W) (IsSumOf W)
path_sum_down_laws W wide = joins_down_laws (sum_lift_laws W) (is_join W) (λ c. c) number_of number_of (start_fits W wide) (number_fits_2 W) (number_fits_2 W)

pub pre_down_laws : (W : ℕ) → 64 ≤ W → DownwardLaws (IsSummed W) (λ _. sum_type W) pre_down single (IsSumOf W) (IsSumOf W)
pre_down_laws W wide = joins_down_laws (sum_lift_laws W) (is_join W) (λ c. c) one one_more (start_fits W wide)
    (λ ty e taken admitted. wider W (pos 1) 1 2 (omega arith) (one_fits W))
    (λ ty e taken admitted. (is_join W).closed (pos 1) 1 (number_of e) 1 (omega arith) (one_fits W) (number_fits W ty e taken admitted))

pub rose_path_sum_down_laws : (W : ℕ) → 64 ≤ W → DownwardLaws (IsSummed W) (λ _. sum_type W) rose_path_sum_down single (IsSumOf W) (IsSumOf W)
rose_path_sum_down_laws W wide = joins_down_laws (sum_lift_laws W) (is_join W) (λ c. c) number_of naught (start_fits W wide) (number_fits_2 W) (λ ty e taken admitted. naught_fits W 2)

pub rose_path_sum_across_laws : AcrossLaws rose_path_sum_down
rose_path_sum_across_laws = record { across = λ c e. omega (arith, ints) }

-- how often the way goes to the left, over elements of every type
turns_lift_laws : LiftLaws IsAny (λ _. turns_type) naught single (IsSumOf 64)
turns_lift_laws = record {
  grows = (sum_lift_laws 64).grows;
  lifted_fits = λ ty e taken admitted. naught_fits 64 1;
  finished_admitted = λ ty c n taken few f. (sum_lift_laws 64).finished_admitted (W64 ∷ []) c n (inl (refl, refl)) few f;
}

pub turns_down_laws : DownwardLaws IsAny (λ _. turns_type) turns_down single (IsSumOf 64) (IsSumOf 64)
turns_down_laws = joins_down_laws turns_lift_laws (is_join 64) (λ c. c) one naught (start_fits 64 (omega arith))
    (λ ty e taken admitted. wider 64 (pos 1) 1 2 (omega arith) (one_fits 64)) (λ ty e taken admitted. naught_fits 64 2)

-- the sums that the weights keep small
pub three_signed : (W : ℕ) (a : ℤ) (l : ℕ) (b : ℤ) (m : ℕ) (c : ℤ) (n : ℕ) → l + m + n ≤ MAX_ELEMENTS → IsSumOf W a l → IsSumOf W b m → IsSumOf W c n
    → FitsSigned w128 (a +ℤ b) × FitsSigned w128 ((a +ℤ b) +ℤ c)
three_signed W a l b m c n few fa fb fc =
    let two = (is_join W).closed a l b m (omega arith) fa fb in
    (sum_is_signed W (a +ℤ b) (l + m) (omega arith) two, sum_is_signed W ((a +ℤ b) +ℤ c) (l + m + n) few ((is_join W).closed (a +ℤ b) (l + m) c n few two fc))
