-- Parts of matrices: how they are cut, how long they are, and the rows of a matrix as such.
use Rattle.std.proofs.Common.{◌≡◌, ℕ, zero, suc, ◌+◌, ◌-◌, ◌*◌, ◌<◌, ◌≤◌, List, [], ◌∷◌, ◌++◌, length, map, take, drop, get_or, slice_range, refl, ap, sym, ◌∙◌, arith}
use Rattle.std.specs.List.{All, flat_map}
use Rattle.std.specs.Simd.{first_chunks}
use Rattle.std.proofs.Math.Seq.{take-add}
use Rattle.std.proofs.lemmas.List.{take_all, drop-drop, drop_more, length-take, length-drop, length-append, length-map, map-append}
use Rattle.std.proofs.lemmas.List.Elements.{All-cons, All-nil, All-head, All-tail, All-take, All-drop, All-map}
use Rattle.std.proofs.lemmas.Nat.{mul-le}
use Rattle.op_laws.specs.Admits.{Admits}
use Rattle.op_laws.specs.Matrices.{Grid, IsGrid, rows_of}
use Rattle.op_laws.specs.Cuts.{cells}
use Rattle.op_laws.proofs.MatrixLemmas.{length-first_chunks}
use Rattle.matrix_skel.specs.Blocks.{part}
use Rattle.matrix_skel.specs.Given.{IsRect}

module _ {X : Type 0} where
  -- a range that is cut
  pub range-join : (xs : List X) (a b c : ℕ) → a ≤ b → b ≤ c → slice_range xs a b ++ slice_range xs b c ≡ slice_range xs a c
  range-join xs a b c first second =
      let sum : c - a ≡ (b - a) + (c - b) = omega arith in
      let from : a + (b - a) ≡ b = omega arith in
      sym (ap (λ n. take n (drop a xs)) sum ∙ take-add (b - a) (c - b) (drop a xs)
      ∙ ap (λ ys. take (b - a) (drop a xs) ++ take (c - b) ys) (drop-drop (b - a) a xs ∙ ap (λ n. drop n xs) from))

  pub range-one : (xs : List X) (i : ℕ) (d : X) → i < length xs → slice_range xs i (i + 1) ≡ get_or xs i d ∷ []
  range-one xs i d within =
      let single : (i + 1) - i ≡ 1 = omega arith in
      ap (λ n. take n (drop i xs)) single ∙ ap (take 1) (drop_more xs i d within)

  pub range-whole : (xs : List X) (n : ℕ) → length xs ≡ n → slice_range xs 0 n ≡ xs
  range-whole xs n long = take_all (n - 0) xs (omega (arith, long))

  pub length-range : (xs : List X) (a b : ℕ) → b ≤ length xs → length (slice_range xs a b) ≡ b - a
  length-range xs a b within = omega (arith, length-take (b - a) (drop a xs), length-drop a xs)

  pub length-range-le : (xs : List X) (a b : ℕ) → length (slice_range xs a b) ≤ b - a
  length-range-le xs a b = omega (arith, length-take (b - a) (drop a xs))

  pub All-range : (P : X → Type 0) (xs : List X) (a b : ℕ) → All P xs → All P (slice_range xs a b)
  All-range P xs a b all = All-take P (b - a) (drop a xs) (All-drop P a xs all)

module _ {X : Type 0} where
  -- a part that is cut between two rows
  pub part-rows : (rows : List (List X)) (i k m j l : ℕ) → i ≤ k → k ≤ m → part rows i k j l ++ part rows k m j l ≡ part rows i m j l
  part-rows rows i k m j l first second =
      sym (map-append (λ row. slice_range row j l) (slice_range rows i k) (slice_range rows k m)) ∙ ap (map (λ row. slice_range row j l)) (range-join rows i k m first second)

  -- one cell
  pub part-cell : (rows : List (List X)) (i j : ℕ) (d : X) → i < length rows → j < length (get_or rows i []) → part rows i (i + 1) j (j + 1) ≡ (get_or (get_or rows i []) j d ∷ []) ∷ []
  part-cell rows i j d row column =
      ap (map (λ row. slice_range row j (j + 1))) (range-one rows i [] row)
      ∙ ap (λ cells. cells ∷ []) (range-one (get_or rows i []) j d column)

  -- the two halves of each row
  abbrev pub halves : ℕ → ℕ → ℕ → List (List X) → List (List X × List X)
  halves j l m rows = map (λ row. (slice_range row j l, slice_range row l m)) rows

  pub lefts-halves : (j l m : ℕ) (rows : List (List X)) → map (λ (p : List X × List X). p.0) (halves j l m rows) ≡ map (λ row. slice_range row j l) rows
  lefts-halves j l m [] = refl
  lefts-halves j l m (row ∷ rows) = ap (λ rest. slice_range row j l ∷ rest) (lefts-halves j l m rows)

  pub rights-halves : (j l m : ℕ) (rows : List (List X)) → map (λ (p : List X × List X). p.1) (halves j l m rows) ≡ map (λ row. slice_range row l m) rows
  rights-halves j l m [] = refl
  rights-halves j l m (row ∷ rows) = ap (λ rest. slice_range row l m ∷ rest) (rights-halves j l m rows)

  pub wholes-halves : (j l m : ℕ) (rows : List (List X)) → j ≤ l → l ≤ m → map (λ (p : List X × List X). p.0 ++ p.1) (halves j l m rows) ≡ map (λ row. slice_range row j m) rows
  wholes-halves j l m [] first second = refl
  wholes-halves j l m (row ∷ rows) first second =
      ap (λ here. here ∷ map (λ (p : List X × List X). p.0 ++ p.1) (halves j l m rows)) (range-join row j l m first second)
      ∙ ap (λ rest. slice_range row j m ∷ rest) (wholes-halves j l m rows first second)

  -- all columns
  pub part-whole : (rows : List (List X)) (i k c : ℕ) → All (λ row. length row ≡ c) rows → part rows i k 0 c ≡ slice_range rows i k
  part-whole rows i k c even = same (slice_range rows i k) (All-range (λ row. length row ≡ c) rows i k even)
    where
      same : (rs : List (List X)) → All (λ row. length row ≡ c) rs → map (λ row. slice_range row 0 c) rs ≡ rs
      same [] all = refl
      same (r ∷ rs) all =
          ap (λ here. here ∷ map (λ row. slice_range row 0 c) rs) (range-whole r c (All-head (λ row. length row ≡ c) r rs all))
          ∙ ap (λ rest. r ∷ rest) (same rs (All-tail (λ row. length row ≡ c) r rs all))

  cells-bound : (w : ℕ) (rows : List (List X)) → All (λ row. length row ≤ w) rows → cells rows ≤ length rows * w
  cells-bound w [] all = omega arith
  cells-bound w (row ∷ rows) all =
      let here = All-head (λ r. length r ≤ w) row rows all in
      let rest = cells-bound w rows (All-tail (λ r. length r ≤ w) row rows all) in
      let sum = length-append row (flat_map (λ r. r) rows) in
      omega arith

  -- a part has no more cells than places
  pub cells-part : (rows : List (List X)) (i k j l : ℕ) → cells (part rows i k j l) ≤ (k - i) * (l - j)
  cells-part rows i k j l =
      let rs = slice_range rows i k in
      let short : All (λ row. length row ≤ l - j) (part rows i k j l) = All-map (λ (row : List X). length row ≤ l - j) (λ row. slice_range row j l) rs (λ n d below. length-range-le (get_or rs n d) j l) in
      let bound = cells-bound (l - j) (part rows i k j l) short in
      let tall = length-map rs (λ row. slice_range row j l) in
      let few = mul-le (length (part rows i k j l)) (l - j) (k - i) (l - j) (omega (arith, tall, length-range-le rows i k)) (omega arith) in
      omega (arith, bound, few)

-- the rows of a matrix

even_chunks : {X : Type 0} (n k : ℕ) (xs : List X) → length xs ≡ k * n → All (λ row. length row ≡ n) (first_chunks n k xs)
even_chunks n zero xs full = All-nil _
even_chunks n (suc k) xs full =
    let here : length (take n xs) ≡ n = omega (arith, length-take n xs) in
    let rest : length (drop n xs) ≡ k * n = omega (arith, length-drop n xs) in
    All-cons (λ row. length row ≡ n) (take n xs) (first_chunks n k (drop n xs)) here (even_chunks n k (drop n xs) rest)

all_chunks : {X : Type 0} (P : X → Type 0) (n k : ℕ) (xs : List X) → All P xs → All (All P) (first_chunks n k xs)
all_chunks P n zero xs all = All-nil _
all_chunks P n (suc k) xs all = All-cons (All P) (take n xs) (first_chunks n k (drop n xs)) (All-take P n xs all) (all_chunks P n k (drop n xs) (All-drop P n xs all))

pub grid_is_rect : (g : Grid) → IsGrid g → All (Admits g.ty) g.cells → IsRect g.ty g.rows g.cols (rows_of g)
grid_is_rect g is all = record {
  tall = length-first_chunks g.cols g.rows g.cells;
  wide = even_chunks g.cols g.rows g.cells is.full;
  admitted = all_chunks (Admits g.ty) g.cols g.rows g.cells all;
  few = omega (arith, is.full, is.few);
}
