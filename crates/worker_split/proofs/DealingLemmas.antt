-- How often a number stands in lists of tickets.
use Rattle.std.proofs.Common.{◌≡◌, ◌≢◌, ℕ, ◌+◌, ◌<◌, ◌≤◌, Bool, cond, eqb, List, [], ◌∷◌, ◌++◌, length, get_or, zero, suc, ap, refl, arith, eq-eqb, ne_eqb}
use Rattle.std.proofs.lemmas.Bool.{cond_both, cond-true, cond-false, lt-ltb, le-ltb}
use Rattle.std.proofs.lemmas.List.Sums.{sum_by-append, sum_by-cons}
use Rattle.std.proofs.Math.Dec.{ltb}
use Rattle.worker_split.specs.Dealing.{times, with_drawn}

pub times-append : (t : ℕ) (xs ys : List ℕ) → times t (xs ++ ys) ≡ times t xs + times t ys
times-append t xs ys = sum_by-append (λ x. cond (eqb x t) 1 0) xs ys

pub times_same : (t : ℕ) → times t (t ∷ []) ≡ 1
times_same t = ap (λ (b : Bool). 0 + cond b 1 0) (eq-eqb t t refl)

pub times_else : (c t : ℕ) → c ≢ t → times t (c ∷ []) ≡ 0
times_else c t ne = ap (λ (b : Bool). 0 + cond b 1 0) (ne_eqb c t ne)

-- a list has each of its elements
pub times_at : (xs : List ℕ) (k d : ℕ) → k < length xs → 1 ≤ times (get_or xs k d) xs
times_at [] k d h = absurd (omega arith)
times_at (x ∷ xs) zero d h =
    let here : cond {A = ℕ} (eqb x x) 1 0 ≡ 1 = ap (λ (b : Bool). cond b 1 0) (eq-eqb x x refl) in
    omega (arith, sum_by-cons (λ y. cond (eqb y x) 1 0) x xs)
times_at (x ∷ xs) (suc k) d h =
    let t : ℕ = get_or xs k d in
    omega (arith, times_at xs k d (omega arith), sum_by-cons (λ y. cond (eqb y t) 1 0) x xs)

pub with_drawn_small : (n c : ℕ) (xs : List ℕ) → c < n → with_drawn n c xs ≡ xs ++ c ∷ []
with_drawn_small n c xs small = cond-true (ltb c n) _ _ (lt-ltb c n small)

pub with_drawn_large : (n c : ℕ) (xs : List ℕ) → n ≤ c → with_drawn n c xs ≡ xs
with_drawn_large n c xs large = cond-false (ltb c n) _ _ (le-ltb c n large)

-- a draw leaves the other numbers as they were
pub times-with_drawn_other : (n c t : ℕ) (xs : List ℕ) → c ≢ t → times t (with_drawn n c xs) ≡ times t xs
times-with_drawn_other n c t xs ne =
    cond_both (ltb c n) (xs ++ c ∷ []) xs (λ ys. times t ys ≡ times t xs)
    (λ _. omega (arith, times-append t xs (c ∷ []), times_else c t ne))
    (λ _. refl)
