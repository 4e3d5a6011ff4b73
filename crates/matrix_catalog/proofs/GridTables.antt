-- The rows of a matrix are equally long, and their cells those of the matrix.
use Rattle.std.proofs.Common.{◌≡◌, ℕ, zero, suc, ◌*◌, ◌≤◌, List, length, take, drop, arith}
use Rattle.std.specs.List.{All}
use Rattle.std.specs.Simd.{first_chunks}
use Rattle.std.proofs.lemmas.List.{length-take, length-drop}
use Rattle.std.proofs.lemmas.List.Elements.{All-cons, All-nil, All-take, All-drop}
use Rattle.op_laws.specs.Admits.{Admits}
use Rattle.op_laws.specs.Matrices.{Grid, IsGrid, rows_of}
use Rattle.op_laws.specs.Tables.{columns}
use Rattle.op_laws.proofs.MatrixLemmas.{length-first_chunks, flat_map-first_chunks}
use Rattle.matrix_catalog.specs.Pairs.{IsTable}

even_chunks : {X : Type 0} (n k : ℕ) (xs : List X) → length xs ≡ k * n → All (λ row. length row ≡ n) (first_chunks n k xs)
even_chunks n zero xs full = All-nil _
even_chunks n (suc k) xs full =
    let here : length (take n xs) ≡ n = omega (arith, length-take n xs) in
    let rest : length (drop n xs) ≡ k * n = omega (arith, length-drop n xs) in
    All-cons (λ row. length row ≡ n) (take n xs) (first_chunks n k (drop n xs)) here (even_chunks n k (drop n xs) rest)

all_chunks : {X : Type 0} (P : X → Type 0) (n k : ℕ) (xs : List X) → All P xs → All (All P) (first_chunks n k xs)
all_chunks P n zero xs all = All-nil _
all_chunks P n (suc k) xs all = All-cons (All P) (take n xs) (first_chunks n k (drop n xs)) (All-take P n xs all) (all_chunks P n k (drop n xs) (All-drop P n xs all))

first_chunk : {X : Type 0} (n k : ℕ) (xs : List X) → 1 ≤ k → length xs ≡ k * n → columns (first_chunks n k xs) ≡ n
first_chunk n zero xs some full = absurd (omega (arith, some))
first_chunk n (suc k) xs some full = omega (arith, length-take n xs)

pub grid_is_table : (g : Grid) → IsGrid g → All (Admits g.ty) g.cells → IsTable g.ty (rows_of g)
grid_is_table g is all =
    let wide = first_chunk g.cols g.rows g.cells is.some_row is.full in
    record {
      some_row = omega (arith, length-first_chunks g.cols g.rows g.cells, is.some_row);
      some_column = rw wide is.some_column;
      even = rw wide (even_chunks g.cols g.rows g.cells is.full);
      admitted = all_chunks (Admits g.ty) g.cols g.rows g.cells all;
      few = rw (flat_map-first_chunks g.cols g.rows g.cells is.full) (omega (arith, is.few));
    }
