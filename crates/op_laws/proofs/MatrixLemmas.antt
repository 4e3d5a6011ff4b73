-- Rows, columns and cells of a matrix.
use Rattle.std.proofs.Common.{◌≡◌, ℕ, zero, suc, ◌+◌, ◌*◌, ◌<◌, List, [], ◌∷◌, ◌++◌, length, get_or, take, drop, refl, ap, arith, ◌∙◌}
use Rattle.std.specs.List.{flat_map}
use Rattle.std.specs.Simd.{first_chunks}
use Rattle.std.proofs.lemmas.List.{length-drop, get_or-take, get_or-drop, get_or-map, drop-drop, take-append-drop}
use Rattle.op_laws.specs.Matrices.{Grid, rows_of, cell_at, column_at}

module _ {X : Type 0} where
  pub length-first_chunks : (n k : ℕ) (xs : List X) → length (first_chunks n k xs) ≡ k
  length-first_chunks n zero xs = refl
  length-first_chunks n (suc k) xs = ap suc (length-first_chunks n k (drop n xs))

  -- chunk i begins after i chunks
  pub get_or-first_chunks : (n k i : ℕ) (xs : List X) → i < k → get_or (first_chunks n k xs) i [] ≡ take n (drop (i * n) xs)
  get_or-first_chunks n zero i xs h = absurd (omega arith)
  get_or-first_chunks n (suc k) zero xs h = ap (λ m. take n (drop m xs)) (let e : 0 ≡ 0 * n = omega arith in e)
  get_or-first_chunks n (suc k) (suc i) xs h =
      get_or-first_chunks n k i (drop n xs) (omega arith)
      ∙ ap (take n) (drop-drop (i * n) n xs ∙ ap (λ m. drop m xs) (let e : n + i * n ≡ suc i * n = omega arith in e))

  -- all of a list in chunks is the list
  pub flat_map-first_chunks : (n k : ℕ) (xs : List X) → length xs ≡ k * n → flat_map (λ row. row) (first_chunks n k xs) ≡ xs
  flat_map-first_chunks n zero [] h = refl
  flat_map-first_chunks n zero (x ∷ xs) h = absurd (omega arith)
  flat_map-first_chunks n (suc k) xs h =
      let rest : length (drop n xs) ≡ k * n = omega (arith, length-drop n xs) in
      ap (λ ys. take n xs ++ ys) (flat_map-first_chunks n k (drop n xs) rest) ∙ take-append-drop n xs

-- a cell by its place among all cells
pub cell_at-place : (g : Grid) (i j : ℕ) → i < g.rows → j < g.cols → cell_at g i j ≡ get_or g.cells (i * g.cols + j) []
cell_at-place g i j row column =
    ap (λ cells. get_or cells j []) (get_or-first_chunks g.cols g.rows i g.cells row)
    ∙ get_or-take g.cols (drop (i * g.cols) g.cells) j [] column
    ∙ get_or-drop (i * g.cols) g.cells j []

-- a cell is the cell of its column
pub get_or-column_at : (g : Grid) (i j : ℕ) → i < g.rows → get_or (column_at g j) i [] ≡ cell_at g i j
get_or-column_at g i j row = get_or-map (λ cells. get_or cells j []) (rows_of g) i [] [] (omega (arith, length-first_chunks g.cols g.rows g.cells))
