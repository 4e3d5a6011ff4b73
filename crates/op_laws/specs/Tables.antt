-- The skeletons on whole matrices, each the list of its rows, with what functions and operators mean as arguments. There is no block or worker here.
use Rattle.std.specs.Prelude.{◌≡◌, ℕ, ◌+◌, List, [], ◌∷◌, map, length, take, slice_index_or, refl}
use Rattle.std.specs.List.{zip, range_with_len}

-- how many columns there are, by the first row
abbrev pub columns : {X : Type 0} → List (List X) → ℕ
columns rows = length (slice_index_or rows 0 [])

-- column j, from 0 on
abbrev pub column : {X : Type 0} → X → List (List X) → ℕ → List X
column other rows j = map (λ row. slice_index_or row j other) rows

-- the matrix whose rows are the columns
abbrev pub transposed : {X : Type 0} → X → List (List X) → List (List X)
transposed other rows = map (column other rows) (range_with_len 0 (columns rows))

-- `down` of what `across` makes of each row
abbrev pub reduced : {X Y Z : Type 0} → (List Y → Z) → (List X → Y) → List (List X) → Z
reduced down across rows = down (map across rows)

-- the rows up to row i, of each the cells up to column j
abbrev pub corner : {X : Type 0} → List (List X) → ℕ → ℕ → List (List X)
corner rows i j = map (take (j + 1)) (take (i + 1) rows)

-- at each cell what the corner that ends there comes to
abbrev pub scanned : {X Y Z : Type 0} → (List Y → Z) → (List X → Y) → List (List X) → List (List Z)
scanned down across rows = map (λ i. map (λ j. reduced down across (corner rows i j)) (range_with_len 0 (columns rows))) (range_with_len 0 (length rows))

-- what each row comes to, and each column
abbrev pub by_rows : {X Y : Type 0} → (List X → Y) → List (List X) → List Y
by_rows reduce rows = map reduce rows

abbrev pub by_columns : {X Y : Type 0} → X → (List X → Y) → List (List X) → List Y
by_columns other reduce rows = map reduce (transposed other rows)

-- cell by cell
abbrev pub mapped : {X Y : Type 0} → (X → Y) → List (List X) → List (List Y)
mapped f rows = map (map f) rows

-- the cells at the same place, joined
abbrev pub joined : {X Y Z : Type 0} → (X → Y → Z) → List (List X) → List (List Y) → List (List Z)
joined f rows others = map (λ p. map (λ q. f q.0 q.1) (zip p.0 p.1)) (zip rows others)

-- worked rows, with sums

abbrev sum : List ℕ → ℕ
sum [] = 0
sum (x ∷ xs) = x + sum xs

abbrev two_by_three : List (List ℕ)
two_by_three = (1 ∷ 2 ∷ 3 ∷ []) ∷ (4 ∷ 5 ∷ 6 ∷ []) ∷ []

turned : transposed 0 two_by_three ≡ (1 ∷ 4 ∷ []) ∷ (2 ∷ 5 ∷ []) ∷ (3 ∷ 6 ∷ []) ∷ []
turned = refl

total : reduced sum sum two_by_three ≡ 21
total = refl

totals : scanned sum sum two_by_three ≡ (1 ∷ 3 ∷ 6 ∷ []) ∷ (5 ∷ 12 ∷ 21 ∷ []) ∷ []
totals = refl

row_totals : by_rows sum two_by_three ≡ 6 ∷ 15 ∷ []
row_totals = refl

column_totals : by_columns 0 sum two_by_three ≡ 5 ∷ 7 ∷ 9 ∷ []
column_totals = refl
