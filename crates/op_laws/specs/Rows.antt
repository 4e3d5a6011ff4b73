-- Rows of numbers, made of columns.
use Rattle.std.specs.Prelude.{ℤ, pos, List, [], ◌∷◌, ◌++◌, ℕ, ◌+◌, ◌≡◌, length, get_or, slice_set}
use Rattle.std.specs.List.{AllByRecursion}
use Rattle.op_laws.specs.Elements.{singles}

-- each number in front of the row at its place
abbrev pub in_front : List ℤ → List (List ℤ) → List (List ℤ)
in_front [] rs = []
in_front (x ∷ xs) [] = []
in_front (x ∷ xs) (r ∷ rs) = (x ∷ r) ∷ in_front xs rs

-- the rows of columns that are equally long
abbrev pub rows : List (List ℤ) → List (List ℤ)
rows [] = []
rows (xs ∷ []) = singles xs
rows (xs ∷ ys ∷ yss) = in_front xs (rows (ys ∷ yss))

-- each column has n numbers
abbrev pub AreOfLength : ℕ → List (List ℤ) → Type 0
AreOfLength n xss = AllByRecursion (λ xs. length xs ≡ n) xss

-- each column has as many numbers as there are rows
abbrev pub AreEven : List (List ℤ) → Type 0
AreEven xss = AreOfLength (length (rows xss)) xss

-- the columns with one row more, of which these are the columns from place k on
abbrev pub with_row : ℕ → List (List ℤ) → List ℤ → List (List ℤ)
with_row k [] t = []
with_row k (xs ∷ xss) t = (xs ++ get_or t k (pos 0) ∷ []) ∷ with_row (k + 1) xss t

-- the columns with the row at place i replaced, of which these are the columns from place k on
abbrev pub with_row_at : ℕ → ℕ → List (List ℤ) → List ℤ → List (List ℤ)
with_row_at i k [] t = []
with_row_at i k (xs ∷ xss) t = slice_set xs i (get_or t k (pos 0)) ∷ with_row_at i (k + 1) xss t

-- each column with the other at its place after it
abbrev pub joined : List (List ℤ) → List (List ℤ) → List (List ℤ)
joined [] yss = []
joined (xs ∷ xss) [] = []
joined (xs ∷ xss) (ys ∷ yss) = (xs ++ ys) ∷ joined xss yss
