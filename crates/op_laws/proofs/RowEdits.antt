-- Rows of columns that are joined, cut, turned round, or changed at one place.
use Rattle.std.proofs.Common.{◌≡◌, ℕ, zero, suc, ◌+◌, ◌<◌, ◌≤◌, ℤ, pos, List, [], ◌∷◌, ◌++◌, length, get_or, map, take, drop, set, reverse, refl, ap, arith, ◌∙◌, sym}
use Rattle.std.proofs.Math.Seq.{drop-nil, take-nil}
use Rattle.std.proofs.lemmas.List.{length-append, length-take, length-drop, length-reverse, length-set, append_assoc, map-append, map-set, take-map, drop-map, reverse-append}
use Rattle.std.specs.List.{All}
use Rattle.std.proofs.lemmas.List.Elements.{All-head, All-tail, All-push}
use Rattle.op_laws.specs.Elements.{singles}
use Rattle.op_laws.specs.Rows.{in_front, rows, AreOfLength, AreEven, with_row_at, joined}
use Rattle.op_laws.proofs.RowLemmas.{length-rows, get_or-seam}

-- joined

in_front-append : (xs ys : List ℤ) (rs ss : List (List ℤ)) → length xs ≡ length rs → in_front (xs ++ ys) (rs ++ ss) ≡ in_front xs rs ++ in_front ys ss
in_front-append [] ys [] ss h = refl
in_front-append [] ys (r ∷ rs) ss h = absurd (omega arith)
in_front-append (x ∷ xs) ys [] ss h = absurd (omega arith)
in_front-append (x ∷ xs) ys (r ∷ rs) ss h = ap (λ t. (x ∷ r) ∷ t) (in_front-append xs ys rs ss (omega arith))

-- the rows of columns one after another are the rows of the first and then those of the second
pub rows-joined : (n : ℕ) (xss yss : List (List ℤ)) → AreOfLength n xss → length xss ≡ length yss → rows (joined xss yss) ≡ rows xss ++ rows yss
rows-joined n [] [] h e = refl
rows-joined n [] (ys ∷ yss) h e = absurd (omega arith)
rows-joined n (xs ∷ xss) [] h e = absurd (omega arith)
rows-joined n (xs ∷ []) (ys ∷ []) h e = map-append (λ x. x ∷ []) xs ys
rows-joined n (xs ∷ []) (ys ∷ zs ∷ yss) h e = absurd (omega arith)
rows-joined n (xs ∷ us ∷ xss) (ys ∷ []) h e = absurd (omega arith)
rows-joined n (xs ∷ us ∷ xss) (ys ∷ zs ∷ yss) h e =
    ap (in_front (xs ++ ys)) (rows-joined n (us ∷ xss) (zs ∷ yss) h.1 (omega arith))
    ∙ in_front-append xs ys (rows (us ∷ xss)) (rows (zs ∷ yss)) (h.0 ∙ sym (length-rows n us xss h.1))

AreOfLength-joined : (m n : ℕ) (xss yss : List (List ℤ)) → AreOfLength m xss → AreOfLength n yss → AreOfLength (m + n) (joined xss yss)
AreOfLength-joined m n [] yss h k = tt
AreOfLength-joined m n (xs ∷ xss) [] h k = tt
AreOfLength-joined m n (xs ∷ xss) (ys ∷ yss) h k =
    let e = h.0 in let f = k.0 in let g = length-append xs ys in
    (omega arith, AreOfLength-joined m n xss yss h.1 k.1)

pub AreEven-joined : (xss yss : List (List ℤ)) → AreEven xss → AreEven yss → length xss ≡ length yss → AreEven (joined xss yss)
AreEven-joined xss yss h k e =
    let many : length (rows (joined xss yss)) ≡ length (rows xss) + length (rows yss) = ap length (rows-joined _ xss yss h e) ∙ length-append (rows xss) (rows yss) in
    rw many (AreOfLength-joined (length (rows xss)) (length (rows yss)) xss yss h k)

-- cut

in_front-nil : (xs : List ℤ) → in_front xs [] ≡ []
in_front-nil [] = refl
in_front-nil (x ∷ xs) = refl

in_front-take : (n : ℕ) (xs : List ℤ) (rs : List (List ℤ)) → in_front (take n xs) (take n rs) ≡ take n (in_front xs rs)
in_front-take zero xs rs = refl
in_front-take (suc n) [] rs = refl
in_front-take (suc n) (x ∷ xs) [] = refl
in_front-take (suc n) (x ∷ xs) (r ∷ rs) = ap (λ t. (x ∷ r) ∷ t) (in_front-take n xs rs)

in_front-drop : (n : ℕ) (xs : List ℤ) (rs : List (List ℤ)) → in_front (drop n xs) (drop n rs) ≡ drop n (in_front xs rs)
in_front-drop zero xs rs = refl
in_front-drop (suc n) [] rs = refl
in_front-drop (suc n) (x ∷ xs) [] = in_front-nil (drop n xs)
in_front-drop (suc n) (x ∷ xs) (r ∷ rs) = in_front-drop n xs rs

-- the rows of columns that are cut alike are cut so
pub rows-cut : (n m : ℕ) (xss : List (List ℤ)) → rows (map (λ xs. take n (drop m xs)) xss) ≡ take n (drop m (rows xss))
rows-cut n m [] = sym (ap (take n) (drop-nil m) ∙ take-nil n)
rows-cut n m (xs ∷ []) = sym (ap (take n) (drop-map (λ x. x ∷ []) m xs) ∙ take-map (λ x. x ∷ []) n (drop m xs))
rows-cut n m (xs ∷ ys ∷ yss) =
    ap (in_front (take n (drop m xs))) (rows-cut n m (ys ∷ yss))
    ∙ in_front-take n (drop m xs) (drop m (rows (ys ∷ yss)))
    ∙ ap (take n) (in_front-drop m xs (rows (ys ∷ yss)))

AreOfLength-cut : (n m k : ℕ) (xss : List (List ℤ)) → m + n ≤ k → AreOfLength k xss → AreOfLength n (map (λ xs. take n (drop m xs)) xss)
AreOfLength-cut n m k [] w h = tt
AreOfLength-cut n m k (xs ∷ xss) w h =
    let e = h.0 in let f = length-take n (drop m xs) in let g = length-drop m xs in
    (omega arith, AreOfLength-cut n m k xss w h.1)

pub AreEven-cut : (n m : ℕ) (xss : List (List ℤ)) → m + n ≤ length (rows xss) → AreEven xss → AreEven (map (λ xs. take n (drop m xs)) xss)
AreEven-cut n m xss w h =
    let e = ap length (rows-cut n m xss) in let f = length-take n (drop m (rows xss)) in let g = length-drop m (rows xss) in
    let many : length (rows (map (λ xs. take n (drop m xs)) xss)) ≡ n = omega arith in
    rw many (AreOfLength-cut n m (length (rows xss)) xss w h)

-- turned round

reverse-cons : {X : Type 0} (x : X) (xs : List X) → reverse (x ∷ xs) ≡ reverse xs ++ x ∷ []
reverse-cons x xs = reverse-append (x ∷ []) xs

in_front-reverse : (xs : List ℤ) (rs : List (List ℤ)) → length xs ≡ length rs → in_front (reverse xs) (reverse rs) ≡ reverse (in_front xs rs)
in_front-reverse [] [] h = refl
in_front-reverse [] (r ∷ rs) h = absurd (omega arith)
in_front-reverse (x ∷ xs) [] h = absurd (omega arith)
in_front-reverse (x ∷ xs) (r ∷ rs) h =
    let short : length xs ≡ length rs = omega arith in
    ap (λ ys. in_front ys (reverse (r ∷ rs))) (reverse-cons x xs)
    ∙ ap (in_front (reverse xs ++ x ∷ [])) (reverse-cons r rs)
    ∙ in_front-append (reverse xs) (x ∷ []) (reverse rs) (r ∷ []) (length-reverse xs ∙ short ∙ sym (length-reverse rs))
    ∙ ap (λ t. t ++ (x ∷ r) ∷ []) (in_front-reverse xs rs short)
    ∙ sym (reverse-cons (x ∷ r) (in_front xs rs))

map-reverse : (xs : List ℤ) → singles (reverse xs) ≡ reverse (singles xs)
map-reverse [] = refl
map-reverse (x ∷ xs) =
    ap singles (reverse-cons x xs)
    ∙ map-append (λ y. y ∷ []) (reverse xs) (x ∷ [])
    ∙ ap (λ t. t ++ (x ∷ []) ∷ []) (map-reverse xs)
    ∙ sym (reverse-cons (x ∷ []) (singles xs))

AreOfLength-reverse : (n : ℕ) (xss : List (List ℤ)) → AreOfLength n xss → AreOfLength n (map (λ xs. reverse xs) xss)
AreOfLength-reverse n [] h = tt
AreOfLength-reverse n (xs ∷ xss) h = (length-reverse xs ∙ h.0, AreOfLength-reverse n xss h.1)

-- the rows of columns turned round are turned round
pub rows-reverse : (n : ℕ) (xss : List (List ℤ)) → AreOfLength n xss → rows (map (λ xs. reverse xs) xss) ≡ reverse (rows xss)
rows-reverse n [] h = refl
rows-reverse n (xs ∷ []) h = map-reverse xs
rows-reverse n (xs ∷ ys ∷ yss) h =
    ap (in_front (reverse xs)) (rows-reverse n (ys ∷ yss) h.1)
    ∙ in_front-reverse xs (rows (ys ∷ yss)) (h.0 ∙ sym (length-rows n ys yss h.1))

pub AreEven-reverse : (xss : List (List ℤ)) → AreEven xss → AreEven (map (λ xs. reverse xs) xss)
AreEven-reverse xss h =
    let many : length (rows (map (λ xs. reverse xs) xss)) ≡ length (rows xss) = ap length (rows-reverse _ xss h) ∙ length-reverse (rows xss) in
    rw many (AreOfLength-reverse (length (rows xss)) xss h)

-- what holds of each element holds of each where they are turned round
pub All-reverse : {X : Type 0} (P : X → Type 0) (xs : List X) → All P xs → All P (reverse xs)
All-reverse P [] all = all
All-reverse P (x ∷ xs) all = rw (reverse-cons x xs) (All-push P (reverse xs) x (All-reverse P xs (All-tail P x xs all)) (All-head P x xs all))

-- changed at one place

in_front-set : (i : ℕ) (xs : List ℤ) (rs : List (List ℤ)) (x : ℤ) (r : List ℤ) → length xs ≡ length rs → in_front (set xs i x) (set rs i r) ≡ set (in_front xs rs) i (x ∷ r)
in_front-set zero [] [] x r h = refl
in_front-set (suc i) [] [] x r h = refl
in_front-set i [] (s ∷ rs) x r h = absurd (omega arith)
in_front-set i (y ∷ xs) [] x r h = absurd (omega arith)
in_front-set zero (y ∷ xs) (s ∷ rs) x r h = refl
in_front-set (suc i) (y ∷ xs) (s ∷ rs) x r h = ap (λ t. (y ∷ s) ∷ t) (in_front-set i xs rs x r (omega arith))

AreOfLength-with_row_at : (n i k : ℕ) (xss : List (List ℤ)) (t : List ℤ) → AreOfLength n xss → AreOfLength n (with_row_at i k xss t)
AreOfLength-with_row_at n i k [] t h = tt
AreOfLength-with_row_at n i k (xs ∷ xss) t h = (length-set xs i (get_or t k (pos 0)) ∙ h.0, AreOfLength-with_row_at n i (k + 1) xss t h.1)

-- these columns take the last part of the row t, the part after `before`
rows-with_row_at_from : (n i k : ℕ) (before after t : List ℤ) (xs : List ℤ) (xss : List (List ℤ)) → AreOfLength n (xs ∷ xss) → length after ≡ length (xs ∷ xss)
    → length before ≡ k → t ≡ before ++ after → rows (with_row_at i k (xs ∷ xss) t) ≡ set (rows (xs ∷ xss)) i after
rows-with_row_at_from n i k before [] t xs xss h m e f = absurd (omega arith)
rows-with_row_at_from n i k before (x ∷ y ∷ after) t xs [] h m e f = absurd (omega arith)
rows-with_row_at_from n i k before (x ∷ []) t xs (ys ∷ yss) h m e f = absurd (omega arith)
rows-with_row_at_from n i k before (x ∷ []) t xs [] h m e f = rw (get_or-seam k before [] t x e f) (map-set (λ z. z ∷ []) xs i x)
rows-with_row_at_from n i k before (x ∷ y ∷ after) t xs (ys ∷ yss) h m e f =
    let longer : length (before ++ x ∷ []) ≡ k + 1 = length-append before (x ∷ []) ∙ ap (λ j. j + 1) e in
    let same : t ≡ (before ++ x ∷ []) ++ y ∷ after = f ∙ sym (append_assoc before (x ∷ []) (y ∷ after)) in
    let rest = rows-with_row_at_from n i (k + 1) (before ++ x ∷ []) (y ∷ after) t ys yss h.1 (omega arith) longer same in
    let even : length xs ≡ length (rows (ys ∷ yss)) = h.0 ∙ sym (length-rows n ys yss h.1) in
    rw (get_or-seam k before (y ∷ after) t x e f, rest) (in_front-set i xs (rows (ys ∷ yss)) x (y ∷ after) even)

-- with one row replaced, the rows are those before but for that one
pub rows-with_row_at : (i : ℕ) (xss : List (List ℤ)) (t : List ℤ) → 0 < length xss → AreEven xss → length t ≡ length xss → rows (with_row_at i 0 xss t) ≡ set (rows xss) i t
rows-with_row_at i [] t some h m = absurd (omega arith)
rows-with_row_at i (xs ∷ xss) t some h m = rows-with_row_at_from _ i 0 [] t t xs xss h m refl refl

pub AreEven-with_row_at : (i : ℕ) (xss : List (List ℤ)) (t : List ℤ) → 0 < length xss → AreEven xss → length t ≡ length xss → AreEven (with_row_at i 0 xss t)
AreEven-with_row_at i xss t some h m =
    let many : length (rows (with_row_at i 0 xss t)) ≡ length (rows xss) = ap length (rows-with_row_at i xss t some h m) ∙ length-set (rows xss) i t in
    rw many (AreOfLength-with_row_at (length (rows xss)) i 0 xss t h)

-- a column is what stands at its place in each row

first_of-in_front : (xs : List ℤ) (rs : List (List ℤ)) → length xs ≡ length rs → map (λ e. get_or e 0 (pos 0)) (in_front xs rs) ≡ xs
first_of-in_front [] rs h = refl
first_of-in_front (x ∷ xs) [] h = absurd (omega arith)
first_of-in_front (x ∷ xs) (r ∷ rs) h = ap (λ t. x ∷ t) (first_of-in_front xs rs (omega arith))

later_of-in_front : (k : ℕ) (xs : List ℤ) (rs : List (List ℤ)) → length xs ≡ length rs → map (λ e. get_or e (suc k) (pos 0)) (in_front xs rs) ≡ map (λ e. get_or e k (pos 0)) rs
later_of-in_front k [] [] h = refl
later_of-in_front k [] (r ∷ rs) h = absurd (omega arith)
later_of-in_front k (x ∷ xs) [] h = absurd (omega arith)
later_of-in_front k (x ∷ xs) (r ∷ rs) h = ap (λ t. get_or r k (pos 0) ∷ t) (later_of-in_front k xs rs (omega arith))

first_of-singles : (xs : List ℤ) → map (λ e. get_or e 0 (pos 0)) (singles xs) ≡ xs
first_of-singles [] = refl
first_of-singles (x ∷ xs) = ap (λ t. x ∷ t) (first_of-singles xs)

column_of-rows : (n k : ℕ) (xs : List ℤ) (xss : List (List ℤ)) → AreOfLength n (xs ∷ xss) → k < length (xs ∷ xss) → map (λ e. get_or e k (pos 0)) (rows (xs ∷ xss)) ≡ get_or (xs ∷ xss) k []
column_of-rows n zero xs [] h w = first_of-singles xs
column_of-rows n (suc k) xs [] h w = absurd (omega arith)
column_of-rows n zero xs (ys ∷ yss) h w = first_of-in_front xs (rows (ys ∷ yss)) (h.0 ∙ sym (length-rows n ys yss h.1))
column_of-rows n (suc k) xs (ys ∷ yss) h w =
    later_of-in_front k xs (rows (ys ∷ yss)) (h.0 ∙ sym (length-rows n ys yss h.1)) ∙ column_of-rows n k ys yss h.1 (omega arith)

pub get_or-columns : (k : ℕ) (xss : List (List ℤ)) → AreEven xss → k < length xss → map (λ e. get_or e k (pos 0)) (rows xss) ≡ get_or xss k []
get_or-columns k [] h w = absurd (omega arith)
get_or-columns k (xs ∷ xss) h w = column_of-rows _ k xs xss h w
