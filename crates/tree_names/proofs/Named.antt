-- Words that are found among names.
use Rattle.std.proofs.Common.{◌≡◌, ℕ, Bool, true, false, cond, List, [], ◌∷◌, Option, Some, IfSome, find, bytes_eq, refl, sym}
use Rattle.std.proofs.lemmas.Slice.Eq.{bytes_eq-Decides}

module _ {X : Type 0} (name : X → List ℕ) (word : List ℕ) where
  one_row : (x : X) (rest : Option X) (b : Bool) → (b ≡ true → word ≡ name x) → IfSome rest (λ y. name y ≡ word) → IfSome (cond b (Some x) rest) (λ y. name y ≡ word)
  one_row x rest true same later = sym (same refl)
  one_row x rest false same later = later

  -- what is found has the name
  pub find_named : (xs : List X) → IfSome (find (λ x. bytes_eq word (name x)) xs) (λ x. name x ≡ word)
  find_named [] = tt
  find_named (x ∷ xs) = one_row x (find (λ y. bytes_eq word (name y)) xs) (bytes_eq word (name x)) (bytes_eq-Decides word (name x)).0 (find_named xs)
