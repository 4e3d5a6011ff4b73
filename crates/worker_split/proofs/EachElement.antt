-- What holds of each element of a list and of its place, where the list grows or shrinks at an end.
use Rattle.std.proofs.Common.{ℕ, zero, suc, ◌<◌, List, [], ◌∷◌, ◌++◌, length, get_or, remove, arith}

module _ {A : Type 0} where
  pub each_push : (P : ℕ → A → Type 0) (xs : List A) (p : A) → ((j : ℕ) (x : A) → j < length xs → P j (get_or xs j x)) → P (length xs) p
      → (j : ℕ) (x : A) → j < length (xs ++ p ∷ []) → P j (get_or (xs ++ p ∷ []) j x)
  each_push P [] p h here zero x l = here
  each_push P [] p h here (suc j) x l = absurd (omega arith)
  each_push P (y ∷ ys) p h here zero x l = h zero x (omega arith)
  each_push P (y ∷ ys) p h here (suc j) x l = each_push (λ k. P (suc k)) ys p (λ k z m. h (suc k) z (omega arith)) here j x (omega arith)

  pub each_cons : (P : ℕ → A → Type 0) (p : A) (xs : List A) → P 0 p → ((j : ℕ) (x : A) → j < length xs → P (suc j) (get_or xs j x))
      → (j : ℕ) (x : A) → j < length (p ∷ xs) → P j (get_or (p ∷ xs) j x)
  each_cons P p xs here h zero x l = here
  each_cons P p xs here h (suc j) x l = h j x (omega arith)

  pub each_init : (P : ℕ → A → Type 0) (xs : List A) (p : A) → ((j : ℕ) (x : A) → j < length (xs ++ p ∷ []) → P j (get_or (xs ++ p ∷ []) j x))
      → ((j : ℕ) (x : A) → j < length xs → P j (get_or xs j x)) × P (length xs) p
  each_init P [] p h = ((λ j x l. absurd (omega arith)), h 0 p (omega arith))
  each_init P (y ∷ ys) p h =
      let rest = each_init (λ k. P (suc k)) ys p (λ k z m. h (suc k) z (omega arith)) in
      (each_cons P y ys (h 0 y (omega arith)) rest.0, rest.1)

  pub each_tail : (P : ℕ → A → Type 0) (xs : List A) → ((j : ℕ) (x : A) → j < length xs → P j (get_or xs j x))
      → (j : ℕ) (x : A) → j < length (remove xs 0) → P (suc j) (get_or (remove xs 0) j x)
  each_tail P [] h j x l = absurd (omega arith)
  each_tail P (y ∷ ys) h j x l = h (suc j) x (omega arith)

  pub each_append : (Q : A → Type 0) (xs ys : List A) → ((i : ℕ) (x : A) → i < length xs → Q (get_or xs i x)) → ((i : ℕ) (x : A) → i < length ys → Q (get_or ys i x))
      → (i : ℕ) (x : A) → i < length (xs ++ ys) → Q (get_or (xs ++ ys) i x)
  each_append Q [] ys f b i x l = b i x l
  each_append Q (y ∷ xs) ys f b zero x l = f zero x (omega arith)
  each_append Q (y ∷ xs) ys f b (suc i) x l = each_append Q xs ys (λ j z m. f (suc j) z (omega arith)) b i x (omega arith)
