-- Sums over a list in which one element changes.
use Rattle.std.proofs.Common.{◌≡◌, ◌≢◌, ℕ, zero, suc, ◌+◌, ◌≤◌, List, [], ◌∷◌, set, sym, refl, ap, arith}
use Rattle.std.specs.List.{sum_by}
use Rattle.std.proofs.lemmas.List.Sums.{sum_by-cons}
use mathlib.Core.Option.{some, some-injective, some-ne-none}
use lib.ListN.{get_elem?}

module _ {A : Type 0} (f : A → ℕ) where
  pub sum_by-set_at : (l : List A) (i : ℕ) (v w : A) → get_elem? l i ≡ some v → sum_by f (set l i w) + f v ≡ sum_by f l + f w
  sum_by-set_at [] i v w e = absurd (some-ne-none v (sym e))
  sum_by-set_at (x ∷ xs) zero v w e =
      let is : f x ≡ f v = ap f (some-injective x v e) in
      omega (arith, sum_by-cons f x xs, sum_by-cons f w xs)
  sum_by-set_at (x ∷ xs) (suc i) v w e =
      omega (arith, sum_by-set_at xs i v w e, sum_by-cons f x xs, sum_by-cons f x (set xs i w))

  pub at-le-sum_by : (l : List A) (i : ℕ) (v : A) → get_elem? l i ≡ some v → f v ≤ sum_by f l
  at-le-sum_by [] i v e = absurd (some-ne-none v (sym e))
  at-le-sum_by (x ∷ xs) zero v e =
      let is : f x ≡ f v = ap f (some-injective x v e) in
      omega (arith, sum_by-cons f x xs)
  at-le-sum_by (x ∷ xs) (suc i) v e = omega (arith, at-le-sum_by xs i v e, sum_by-cons f x xs)

  pub two_at-le-sum_by : (l : List A) (i j : ℕ) (v w : A) → j ≢ i → get_elem? l i ≡ some v → get_elem? l j ≡ some w → f v + f w ≤ sum_by f l
  two_at-le-sum_by [] i j v w n e e' = absurd (some-ne-none v (sym e))
  two_at-le-sum_by (x ∷ xs) zero zero v w n e e' = absurd (n refl)
  two_at-le-sum_by (x ∷ xs) zero (suc j) v w n e e' =
      let is : f x ≡ f v = ap f (some-injective x v e) in
      omega (arith, at-le-sum_by xs j w e', sum_by-cons f x xs)
  two_at-le-sum_by (x ∷ xs) (suc i) zero v w n e e' =
      let is : f x ≡ f w = ap f (some-injective x w e') in
      omega (arith, at-le-sum_by xs i v e, sum_by-cons f x xs)
  two_at-le-sum_by (x ∷ xs) (suc i) (suc j) v w n e e' =
      omega (arith, two_at-le-sum_by xs i j v w (λ h. n (ap suc h)) e e', sum_by-cons f x xs)

  sum_by_none : (l : List A) → ((j : ℕ) (x : A) → get_elem? l j ≡ some x → f x ≡ 0) → sum_by f l ≡ 0
  sum_by_none [] h = refl
  sum_by_none (x ∷ xs) h =
      let here : f x ≡ 0 = h zero x refl in
      omega (arith, sum_by_none xs (λ j y e. h (suc j) y e), sum_by-cons f x xs)

  -- where each other element adds nothing
  pub sum_by_alone : (l : List A) (i : ℕ) (v : A) → get_elem? l i ≡ some v → ((j : ℕ) (x : A) → j ≢ i → get_elem? l j ≡ some x → f x ≡ 0) → sum_by f l ≡ f v
  sum_by_alone [] i v e h = absurd (some-ne-none v (sym e))
  sum_by_alone (x ∷ xs) zero v e h =
      let is : f x ≡ f v = ap f (some-injective x v e) in
      omega (arith, sum_by_none xs (λ j y e'. h (suc j) y (λ z. omega arith) e'), sum_by-cons f x xs)
  sum_by_alone (x ∷ xs) (suc i) v e h =
      let here : f x ≡ 0 = h zero x (λ z. omega arith) refl in
      omega (arith, sum_by_alone xs i v e (λ j y n e'. h (suc j) y (λ z. n (omega arith)) e'), sum_by-cons f x xs)
