-- The elements of a head at their places.
use Rattle.std.proofs.Common.{◌≡◌, ℕ, zero, suc, ◌<◌, ℤ, pos, List, [], ◌∷◌, ◌++◌, length, get_or, refl, ap, ◌∙◌, arith}
use Rattle.std.specs.List.{zip}
use Rattle.std.proofs.lemmas.List.{length-map}
use Rattle.std.proofs.lemmas.Slice.Zip.{length-zip}
use Rattle.std.proofs.lemmas.List.FromFn.{length-map-range_with_len, get_or-map-range_with_len}
use Rattle.op_laws.specs.declared.width.Width.{Width}
use Rattle.op_laws.specs.Admits.{Admits}
use Rattle.op_laws.specs.Lists.{zipped, iota}

pub length-zipped : (xs ys : List (List ℤ)) → length xs ≡ length ys → length (zipped xs ys) ≡ length xs
length-zipped xs ys same = length-map (zip xs ys) (λ p. p.0 ++ p.1) ∙ length-zip xs ys ∙ omega arith

pub get_or-zipped : (xs ys : List (List ℤ)) (i : ℕ) → i < length xs → i < length ys → get_or (zipped xs ys) i [] ≡ get_or xs i [] ++ get_or ys i []
get_or-zipped [] ys i first second = absurd (omega arith)
get_or-zipped (x ∷ xs) [] i first second = absurd (omega arith)
get_or-zipped (x ∷ xs) (y ∷ ys) zero first second = refl
get_or-zipped (x ∷ xs) (y ∷ ys) (suc i) first second = get_or-zipped xs ys i (omega arith) (omega arith)

pub length-iota : (n : ℕ) → length (iota n) ≡ n
length-iota n = length-map-range_with_len (λ i. pos i ∷ []) 0 n

pub get_or-iota : (n i : ℕ) → i < n → get_or (iota n) i [] ≡ pos i ∷ []
get_or-iota n i within = get_or-map-range_with_len (λ i. pos i ∷ []) 0 n i i [] within (omega arith)

-- the components of two elements are of both types
pub Admits-append : (ty uy : List Width) (e d : List ℤ) → Admits ty e → Admits uy d → Admits (ty ++ uy) (e ++ d)
Admits-append [] uy [] d h k = k
Admits-append [] uy (v ∷ e) d h k = absurd h
Admits-append (w ∷ ty) uy [] d h k = absurd h
Admits-append (w ∷ ty) uy (v ∷ e) d h k = (h.0, Admits-append ty uy e d h.1 k)

-- an element has as many numbers as its type has widths
pub length-Admits : (ty : List Width) (e : List ℤ) → Admits ty e → length e ≡ length ty
length-Admits [] [] h = refl
length-Admits [] (v ∷ e) h = absurd h
length-Admits (w ∷ ty) [] h = absurd h
length-Admits (w ∷ ty) (v ∷ e) h = ap suc (length-Admits ty e h.1)
