-- Elements of two lists at the same place, joined.
use Rattle.std.proofs.Common.{◌≡◌, suc, ◌+◌, ◌<◌, ◌≤◌, ℕ, ℤ, List, [], ◌∷◌, ◌++◌, length, take, get_or, refl, ap, sym, ◌∙◌, arith}
use Rattle.std.proofs.lemmas.List.{take_more, length-take-le}
use Rattle.op_laws.specs.declared.width.Width.{Width}
use Rattle.op_laws.specs.Admits.{Admits}
use Rattle.op_laws.specs.Lists.{zipped}

-- the components of two elements are of both types
pub Admits-append : (ty uy : List Width) (e d : List ℤ) → Admits ty e → Admits uy d → Admits (ty ++ uy) (e ++ d)
Admits-append [] uy [] d h k = k
Admits-append [] uy (v ∷ e) d h k = absurd h
Admits-append (w ∷ ty) uy [] d h k = absurd h
Admits-append (w ∷ ty) uy (v ∷ e) d h k = (h.0, Admits-append ty uy e d h.1 k)

-- an element has as many numbers as its type has widths
pub length-Admits : (ty : List Width) (e : List ℤ) → Admits ty e → length e ≡ length ty
length-Admits [] [] h = refl
length-Admits [] (v ∷ e) h = absurd h
length-Admits (w ∷ ty) [] h = absurd h
length-Admits (w ∷ ty) (v ∷ e) h = ap suc (length-Admits ty e h.1)

pub zipped-append : (xs ys us vs : List (List ℤ)) → length xs ≡ length ys → zipped (xs ++ us) (ys ++ vs) ≡ zipped xs ys ++ zipped us vs
zipped-append [] [] us vs e = refl
zipped-append [] (y ∷ ys) us vs e = absurd (omega arith)
zipped-append (x ∷ xs) [] us vs e = absurd (omega arith)
zipped-append (x ∷ xs) (y ∷ ys) us vs e = ap (λ zs. (x ++ y) ∷ zs) (zipped-append xs ys us vs (omega arith))

pub length-zipped : (xs ys : List (List ℤ)) → length xs ≡ length ys → length (zipped xs ys) ≡ length xs
length-zipped [] [] e = refl
length-zipped [] (y ∷ ys) e = absurd (omega arith)
length-zipped (x ∷ xs) [] e = absurd (omega arith)
length-zipped (x ∷ xs) (y ∷ ys) e = ap suc (length-zipped xs ys (omega arith))

-- the elements at one place more
pub zipped-more : (xs ys : List (List ℤ)) (i : ℕ) → length xs ≡ length ys → i < length xs
    → zipped (take (i + 1) xs) (take (i + 1) ys) ≡ zipped (take i xs) (take i ys) ++ (get_or xs i [] ++ get_or ys i []) ∷ []
zipped-more xs ys i e h =
    ap (λ zs. zipped zs (take (i + 1) ys)) (take_more xs i [] h)
    ∙ ap (zipped (take i xs ++ get_or xs i [] ∷ [])) (take_more ys i [] (omega arith))
    ∙ zipped-append (take i xs) (take i ys) (get_or xs i [] ∷ []) (get_or ys i [] ∷ []) (length-take-le i xs (omega arith) ∙ sym (length-take-le i ys (omega arith)))

pub length-zipped-take : (xs ys : List (List ℤ)) (i : ℕ) → length xs ≡ length ys → i ≤ length xs → length (zipped (take i xs) (take i ys)) ≡ i
length-zipped-take xs ys i e h =
    let a = length-take-le i xs h in
    length-zipped (take i xs) (take i ys) (a ∙ sym (length-take-le i ys (omega arith))) ∙ a
