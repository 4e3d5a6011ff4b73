-- What a matrix is seen as, with its rows, columns and cells.
use Rattle.std.specs.Prelude.{◌≡◌, ℕ, ◌*◌, ◌^◌, ◌≤◌, ◌<◌, ℤ, List, [], length, map, slice_index_or}
use Rattle.std.specs.Simd.{first_chunks}
use Rattle.op_laws.specs.declared.width.Width.{Width}

-- cells of one type, row after row
pub record Grid : Type 0 where
  pub ty : List Width
  pub rows : ℕ
  pub cols : ℕ
  pub cells : List (List ℤ)

-- there is a row and a column, and in each row a cell for each column
pub record IsGrid (g : Grid) : Type 0 where
  pub some_row : 1 ≤ g.rows
  pub some_column : 1 ≤ g.cols
  pub full : length g.cells ≡ g.rows * g.cols
  pub few : length g.cells < 2 ^ 32

-- the rows, each the list of its cells
abbrev pub rows_of : Grid → List (List (List ℤ))
rows_of g = first_chunks g.cols g.rows g.cells

-- row i, from 0 on
abbrev pub row_at : Grid → ℕ → List (List ℤ)
row_at g i = slice_index_or (rows_of g) i []

-- the cell of row i and column j
abbrev pub cell_at : Grid → ℕ → ℕ → List ℤ
cell_at g i j = slice_index_or (row_at g i) j []

-- column j, from 0 on: of each row its cell there
abbrev pub column_at : Grid → ℕ → List (List ℤ)
column_at g j = map (λ row. slice_index_or row j []) (rows_of g)
