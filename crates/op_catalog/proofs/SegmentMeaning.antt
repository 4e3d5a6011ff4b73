-- The fold by sums of segments has the greatest sum of a segment.
use Rattle.std.proofs.Common.{◌≡◌, ℕ, zero, suc, ◌-◌, ◌≤◌, ℤ, pos, ◌+ℤ◌, ◌≤ℤ◌, List, [], ◌∷◌, length, take, drop, slice_range, cond, ◌⊎◌, inl, inr, true, false, int_lt, refl, ap, sym, ◌∙◌, arith}
use Rattle.std.specs.List.{fold}
use Rattle.std.specs.Int.{int_max}
use Rattle.std.proofs.lemmas.Int.{ints, clamps}
use Rattle.op_laws.specs.Folds.{step, fold_or}
use Rattle.op_catalog.specs.declared.mss.Segments.{Segments}
use Rattle.op_catalog.specs.Numbers.{number_of, numbers_of}
use Rattle.op_catalog.specs.Sums.{sum_of}
use Rattle.op_catalog.specs.Segments.{best_prefix, best_segment, IsGreatestSegment, segments, of_one, of_none, joined, IsShaped}
use Rattle.op_catalog.specs.SegmentLaws.{segments_same, IsShaped-of_one, IsShaped-joined, joined_assoc, joined-of_none}

-- ---- what is carried of a whole list

-- the greatest sum of a suffix, the empty one among them
best_suffix : List ℤ → ℤ
best_suffix [] = pos 0
best_suffix (x ∷ xs) = int_max (best_suffix xs) (int_max x (pos 0) +ℤ sum_of xs)

abbrev summary : List ℤ → Segments
summary xs = segments (sum_of xs) (best_prefix xs) (best_suffix xs) (best_segment xs)

best_prefix-low : (xs : List ℤ) → pos 0 ≤ℤ best_prefix xs
best_prefix-low [] = omega (arith, ints)
best_prefix-low (x ∷ xs) = omega (arith, ints, clamps)

best_prefix-best_segment : (xs : List ℤ) → best_prefix xs ≤ℤ best_segment xs
best_prefix-best_segment [] = omega (arith, ints)
best_prefix-best_segment (x ∷ xs) = omega (arith, ints, clamps)

-- for p the best prefix and b the best segment of what follows the number x
one_prefix : (x p : ℤ) → pos 0 ≤ℤ p → int_max (int_max x (pos 0)) (x +ℤ p) ≡ int_max (pos 0) (x +ℤ p)
one_prefix x p low = omega (arith, ints, clamps)

one_best : (x p b : ℤ) → pos 0 ≤ℤ p → p ≤ℤ b → int_max (int_max (int_max x (pos 0)) b) (int_max x (pos 0) +ℤ p) ≡ int_max (int_max (pos 0) (x +ℤ p)) b
one_best x p b low within = omega (arith, ints, clamps)

-- one number in front of a list
joined-summary : (e : List ℤ) (xs : List ℤ) → joined (of_one e) (summary xs) ≡ summary (number_of e ∷ xs)
unfolding best_suffix
joined-summary e xs =
    segments_same _ _ _ _ _ _ _ _ refl (one_prefix (number_of e) (best_prefix xs) (best_prefix-low xs)) refl
    (one_best (number_of e) (best_prefix xs) (best_segment xs) (best_prefix-low xs) (best_prefix-best_segment xs))

summary_from : (c : Segments) (es : List (List ℤ)) → IsShaped c → fold (step of_one joined) c es ≡ joined c (summary (numbers_of es))
unfolding best_suffix
summary_from c [] f = sym (joined-of_none c f)
summary_from c (e ∷ es) f =
    summary_from (joined c (of_one e)) es (IsShaped-joined c (of_one e) f (IsShaped-of_one e))
    ∙ joined_assoc c (of_one e) (summary (numbers_of es))
    ∙ ap (joined c) (joined-summary e (numbers_of es))

pub fold_or-segments : (es : List (List ℤ)) → (fold_or of_none of_one joined es).best ≡ best_segment (numbers_of es)
fold_or-segments [] = refl
fold_or-segments (e ∷ es) = ap (λ c. c.best) (summary_from (of_one e) es (IsShaped-of_one e) ∙ joined-summary e (numbers_of es))

-- ---- the greatest of all segments

max_is : (a b : ℤ) → (int_max a b ≡ a) ⊎ (int_max a b ≡ b)
max_is a b = elim (int_lt b a) as (λ t. (cond t a b ≡ a) ⊎ (cond t a b ≡ b)) [ true ↦ inl refl | false ↦ inr refl ]

take-bound : (xs : List ℤ) (n : ℕ) → sum_of (take n xs) ≤ℤ best_prefix xs
take-bound [] zero = omega (arith, ints)
take-bound [] (suc n) = omega (arith, ints)
take-bound (x ∷ xs) zero = omega (arith, ints, clamps)
take-bound (x ∷ xs) (suc n) = omega (arith, ints, clamps, take-bound xs n)

-- some prefix has the greatest sum
pub record SomePrefix (xs : List ℤ) : Type 0 where
  pub n : ℕ
  pub within : n ≤ length xs
  pub reached : sum_of (take n xs) ≡ best_prefix xs

some_prefix : (xs : List ℤ) → SomePrefix xs
some_prefix [] = record { n = 0; within = omega arith; reached = refl }
some_prefix (x ∷ xs) =
    let rest = some_prefix xs in
    elim (max_is (pos 0) (x +ℤ best_prefix xs)) as (λ _. SomePrefix (x ∷ xs)) [
      | inl none ↦ record { n = 0; within = omega arith; reached = sym none }
      | inr more ↦ record { n = suc rest.n; within = omega (arith, rest.within); reached = ap (λ s. x +ℤ s) rest.reached ∙ sym more }
    ]

drop_none : (i : ℕ) → drop {A = ℤ} i [] ≡ []
drop_none zero = refl
drop_none (suc i) = refl

take_none : (n : ℕ) → take {A = ℤ} n [] ≡ []
take_none zero = refl
take_none (suc n) = refl

segment-bound : (xs : List ℤ) (i j : ℕ) → sum_of (slice_range xs i j) ≤ℤ best_segment xs
segment-bound [] i j = rw (drop_none i, take_none (j - i)) (omega (arith, ints))
segment-bound (x ∷ xs) zero j = omega (arith, ints, clamps, take-bound (x ∷ xs) (j - 0))
segment-bound (x ∷ xs) (suc i) j = let behind : j - suc i ≡ (j - 1) - i = omega arith in rw behind (omega (arith, ints, clamps, segment-bound xs i (j - 1)))

pub record SomeSegment (xs : List ℤ) : Type 0 where
  pub i : ℕ
  pub j : ℕ
  pub order : i ≤ j
  pub within : j ≤ length xs
  pub reached : sum_of (slice_range xs i j) ≡ best_segment xs

some_segment : (xs : List ℤ) → SomeSegment xs
some_segment [] = record { i = 0; j = 0; order = omega arith; within = omega arith; reached = refl }
some_segment (x ∷ xs) =
    elim (max_is (best_prefix (x ∷ xs)) (best_segment xs)) as (λ _. SomeSegment (x ∷ xs)) [
      | inl first ↦
          let some = some_prefix (x ∷ xs) in
          let whole : some.n - 0 ≡ some.n = omega arith in
          record { i = 0; j = some.n; order = omega arith; within = some.within; reached = rw whole (some.reached ∙ sym first) }
      | inr later ↦
          let some = some_segment xs in
          let long : suc some.j - suc some.i ≡ some.j - some.i = omega arith in
          record { i = suc some.i; j = suc some.j; order = omega (arith, some.order); within = omega (arith, some.within); reached = rw long (some.reached ∙ sym later) }
    ]

pub IsGreatestSegment-best_segment : (xs : List ℤ) → IsGreatestSegment xs (best_segment xs)
IsGreatestSegment-best_segment xs =
    let some = some_segment xs in
    record { bound = λ i j order within. segment-bound xs i j; reached = (some.i, some.j, some.order, some.within, some.reached) }
