-- Lists that are seen through a view.
use Rattle.std.proofs.Common.{◌≡◌, ℕ, suc, ◌+◌, ◌<◌, ◌≤◌, Bool, List, [], ◌∷◌, length, get_or, drop, map, refl, ap, arith, add-one, drop-cons}
use Rattle.std.proofs.lemmas.Grind.{common_steps}
use Rattle.std.specs.Prelude.{◌||◌}
use Rattle.std.specs.List.{list_any}

pub any_of_map : {A B : Type 0} → (p : B → Bool) (f : A → B) (xs : List A) → list_any p (map f xs) ≡ list_any (λ x. p (f x)) xs
any_of_map p f [] = refl
any_of_map p f (x ∷ xs) = ap (λ b. p (f x) || b) (any_of_map p f xs)

pub drop_is : {A : Type 0} → (xs : List A) (i : ℕ) (x : A) → i < length xs → x ≡ get_or xs i x → drop i xs ≡ x ∷ drop (i + 1) xs
drop_is xs i x lt e = let c : drop i xs ≡ get_or xs i x ∷ drop (suc i) xs = drop-cons xs i x lt in rw (add-one, c, ← e) refl

pub drop_all : {A : Type 0} → (xs : List A) (i : ℕ) → length xs ≤ i → drop i xs ≡ []
drop_all xs i le = grind (arith, common_steps)

pub lengths : {A B : Type 0} → (f : A → B) (xs : List A) → length (map f xs) ≡ length xs
lengths f xs = grind (arith, common_steps)
