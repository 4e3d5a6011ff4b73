-- Rows and columns of numbers.
use Rattle.std.proofs.Common.{◌≡◌, ℕ, zero, suc, ◌+◌, ◌<◌, ℤ, pos, List, [], ◌∷◌, ◌++◌, length, get_or, map, refl, ap, arith, ◌∙◌, sym}
use Rattle.std.proofs.Math.Seq.{get_or-append_seam}
use Rattle.std.proofs.lemmas.List.{length-map, length-append, append_assoc, map_push, get_or-map}
use Rattle.std.specs.List.{All}
use Rattle.std.proofs.lemmas.List.Elements.{All-get_or}
use Rattle.op_laws.specs.declared.width.Width.{Width}
use Rattle.op_laws.specs.Admits.{Admits}
use Rattle.op_laws.specs.Rows.{in_front, rows, AreOfLength, AreEven, with_row}

length-in_front : (n : ℕ) (xs : List ℤ) (rs : List (List ℤ)) → length xs ≡ n → length rs ≡ n → length (in_front xs rs) ≡ n
length-in_front n [] rs h k = h
length-in_front n (x ∷ xs) [] h k = absurd (omega arith)
length-in_front n (x ∷ xs) (r ∷ rs) h k = ap suc (length-in_front (length xs) xs rs refl (omega arith)) ∙ h

-- there are as many rows as each column has numbers
pub length-rows : (n : ℕ) (xs : List ℤ) (xss : List (List ℤ)) → AreOfLength n (xs ∷ xss) → length (rows (xs ∷ xss)) ≡ n
length-rows n xs [] h = length-map xs (λ x. x ∷ []) ∙ h.0
length-rows n xs (ys ∷ yss) h = length-in_front n xs (rows (ys ∷ yss)) h.0 (length-rows n ys yss h.1)

get_or-in_front : (i : ℕ) (xs : List ℤ) (rs : List (List ℤ)) → i < length xs → i < length rs → get_or (in_front xs rs) i [] ≡ get_or xs i (pos 0) ∷ get_or rs i []
get_or-in_front i [] rs h k = absurd (omega arith)
get_or-in_front i (x ∷ xs) [] h k = absurd (omega arith)
get_or-in_front zero (x ∷ xs) (r ∷ rs) h k = refl
get_or-in_front (suc i) (x ∷ xs) (r ∷ rs) h k = get_or-in_front i xs rs (omega arith) (omega arith)

-- the row at a place has the number of each column there
pub get_or-rows : (n i : ℕ) (xs : List ℤ) (xss : List (List ℤ)) → AreOfLength n (xs ∷ xss) → i < n → get_or (rows (xs ∷ xss)) i [] ≡ map (λ ys. get_or ys i (pos 0)) (xs ∷ xss)
get_or-rows n i xs [] h k = get_or-map (λ x. x ∷ []) xs i (pos 0) [] (omega arith)
get_or-rows n i xs (ys ∷ yss) h k =
    let within : i < length (rows (ys ∷ yss)) = omega (arith, length-rows n ys yss h.1) in
    get_or-in_front i xs (rows (ys ∷ yss)) (omega arith) within
    ∙ ap (λ r. get_or xs i (pos 0) ∷ r) (get_or-rows n i ys yss h.1 k)

in_front-push : (xs : List ℤ) (rs : List (List ℤ)) (x : ℤ) (r : List ℤ) → length xs ≡ length rs → in_front (xs ++ x ∷ []) (rs ++ r ∷ []) ≡ in_front xs rs ++ (x ∷ r) ∷ []
in_front-push [] [] x r h = refl
in_front-push [] (s ∷ rs) x r h = absurd (omega arith)
in_front-push (y ∷ xs) [] x r h = absurd (omega arith)
in_front-push (y ∷ xs) (s ∷ rs) x r h = ap (λ t. (y ∷ s) ∷ t) (in_front-push xs rs x r (omega arith))

-- with one row more, each column is longer by one
pub AreOfLength-with_row : (n k : ℕ) (xss : List (List ℤ)) (t : List ℤ) → AreOfLength n xss → AreOfLength (n + 1) (with_row k xss t)
AreOfLength-with_row n k [] t h = tt
AreOfLength-with_row n k (xs ∷ xss) t h =
    (length-append xs (get_or t k (pos 0) ∷ []) ∙ ap (λ m. m + 1) h.0, AreOfLength-with_row n (k + 1) xss t h.1)

-- the number of a row at the place where its last part begins
pub get_or-seam : (k : ℕ) (before after row : List ℤ) (x : ℤ) → length before ≡ k → row ≡ before ++ x ∷ after → get_or row k (pos 0) ≡ x
get_or-seam k before after row x e f = rw (f, ← e) (get_or-append_seam before x after (pos 0))

-- these columns take the last part of the row t, the part after `before`
rows-with_row_from : (n k : ℕ) (before after t : List ℤ) (xs : List ℤ) (xss : List (List ℤ)) → AreOfLength n (xs ∷ xss) → length after ≡ length (xs ∷ xss)
    → length before ≡ k → t ≡ before ++ after → rows (with_row k (xs ∷ xss) t) ≡ rows (xs ∷ xss) ++ after ∷ []
rows-with_row_from n k before [] t xs xss h m e f = absurd (omega arith)
rows-with_row_from n k before (x ∷ y ∷ after) t xs [] h m e f = absurd (omega arith)
rows-with_row_from n k before (x ∷ []) t xs (ys ∷ yss) h m e f = absurd (omega arith)
rows-with_row_from n k before (x ∷ []) t xs [] h m e f = rw (get_or-seam k before [] t x e f) (map_push (λ z. z ∷ []) xs x)
rows-with_row_from n k before (x ∷ y ∷ after) t xs (ys ∷ yss) h m e f =
    let longer : length (before ++ x ∷ []) ≡ k + 1 = length-append before (x ∷ []) ∙ ap (λ j. j + 1) e in
    let same : t ≡ (before ++ x ∷ []) ++ y ∷ after = f ∙ sym (append_assoc before (x ∷ []) (y ∷ after)) in
    let rest = rows-with_row_from n (k + 1) (before ++ x ∷ []) (y ∷ after) t ys yss h.1 (omega arith) longer same in
    let even : length xs ≡ length (rows (ys ∷ yss)) = h.0 ∙ sym (length-rows n ys yss h.1) in
    rw (get_or-seam k before (y ∷ after) t x e f, rest) (in_front-push xs (rows (ys ∷ yss)) x (y ∷ after) even)

-- with one row more, the rows are those before and then that one
pub rows-with_row : (xss : List (List ℤ)) (t : List ℤ) → 0 < length xss → AreEven xss → length t ≡ length xss → rows (with_row 0 xss t) ≡ rows xss ++ t ∷ []
rows-with_row [] t some h m = absurd (omega arith)
rows-with_row (xs ∷ xss) t some h m = rows-with_row_from _ 0 [] t t xs xss h m refl refl

-- with one row more, the columns are equally long again
pub AreEven-with_row : (xss : List (List ℤ)) (t : List ℤ) → 0 < length xss → AreEven xss → length t ≡ length xss → AreEven (with_row 0 xss t)
AreEven-with_row xss t some h m =
    let longer : length (rows (with_row 0 xss t)) ≡ length (rows xss) + 1 = ap length (rows-with_row xss t some h m) ∙ length-append (rows xss) (t ∷ []) in
    rw longer (AreOfLength-with_row (length (rows xss)) 0 xss t h)

-- the row at a place of equally long columns
pub get_or-rows_at : (xss : List (List ℤ)) (i : ℕ) → AreEven xss → i < length (rows xss) → get_or (rows xss) i [] ≡ map (λ xs. get_or xs i (pos 0)) xss
get_or-rows_at [] i h k = absurd (omega arith)
get_or-rows_at (xs ∷ xss) i h k = get_or-rows _ i xs xss h k

-- an element of a list is one that its type admits
pub admitted_at : (ty : List Width) (items : List (List ℤ)) (i : ℕ) (t : List ℤ) → All (Admits ty) items → i < length items → t ≡ get_or items i [] → Admits ty t
admitted_at ty items i t all within is = rw is (All-get_or (Admits ty) items i [] within all)
