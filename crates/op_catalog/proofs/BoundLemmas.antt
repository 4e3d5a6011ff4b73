-- The least and the greatest of numbers are bounds that are reached.
use Rattle.std.proofs.Common.{◌≡◌, ℤ, ◌≤ℤ◌, List, [], ◌∷◌, ◌⊎◌, refl, sym, inl, inr, arith}
use Rattle.std.specs.List.{fold, Contains}
use Rattle.std.specs.Int.{int_min, int_max}
use Rattle.std.proofs.lemmas.Int.{fold-int_min_bounds, fold-int_min_reached, fold-int_max_bounds, fold-int_max_reached}
use Rattle.std.proofs.lemmas.List.Elements.{All-nil, All-cons, Contains-append_right}
use Rattle.op_catalog.specs.Bounds.{least_of, greatest_of, IsLeast, IsGreatest}

-- one of a list is one of the longer list
in_longer : (x r : ℤ) (xs : List ℤ) → (r ≡ x) ⊎ Contains xs r → Contains (x ∷ xs) r
in_longer x r xs (inl same) = (0, omega arith, sym same)
in_longer x r xs (inr found) = Contains-append_right (x ∷ []) xs r found

pub IsLeast-fold : (end : ℤ) (xs : List ℤ) → IsLeast end xs (least_of end xs)
IsLeast-fold end [] = record { bound = All-nil _; reached = inr (refl, refl) }
IsLeast-fold end (x ∷ xs) =
    let r = fold int_min x xs in
    let bounds = fold-int_min_bounds x xs r refl in
    record { bound = All-cons (λ y. r ≤ℤ y) x xs bounds.0 bounds.1; reached = inl (in_longer x r xs (fold-int_min_reached x xs r refl)) }

pub IsGreatest-fold : (end : ℤ) (xs : List ℤ) → IsGreatest end xs (greatest_of end xs)
IsGreatest-fold end [] = record { bound = All-nil _; reached = inr (refl, refl) }
IsGreatest-fold end (x ∷ xs) =
    let r = fold int_max x xs in
    let bounds = fold-int_max_bounds x xs r refl in
    record { bound = All-cons (λ y. y ≤ℤ r) x xs bounds.0 bounds.1; reached = inl (in_longer x r xs (fold-int_max_reached x xs r refl)) }
