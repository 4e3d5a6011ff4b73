-- Matrices whose rows have a first cell, and their folds.
use Rattle.std.proofs.Common.{◌≡◌, ℕ, ◌≤◌, ℤ, List, [], ◌∷◌, length, map, Some, refl, ap, arith, length-append}
use Rattle.std.specs.List.{fold, All, flat_map}
use Rattle.std.proofs.lemmas.List.Elements.{All-head, All-tail, All-cons, All-nil}
use Rattle.op_laws.specs.declared.width.Width.{Width}
use Rattle.op_laws.specs.Admits.{Admits}
use Rattle.op_laws.specs.Cuts.{cells}
use Rattle.op_laws.specs.Folds.{step, fold_of, fold_rows, beside}
use Rattle.matrix_catalog.specs.Pairs.{IsTable}

-- a row by its first cell and the others
abbrev pub Row : Type 0
Row = List ℤ × List (List ℤ)

abbrev pub row_of : Row → List (List ℤ)
row_of p = p.0 ∷ p.1

-- the rows are made of these, whose cells are admitted, and none has more cells than all together
pub record AreParts (ty : List Width) (rows : List (List (List ℤ))) (parts : List Row) : Type 0 where
  pub same : rows ≡ map row_of parts
  pub admitted : All (λ p. All (Admits ty) (row_of p)) parts
  pub few : All (λ p. length (row_of p) ≤ cells rows) parts

-- a matrix by its first row and the others
pub record Parts (ty : List Width) (rows : List (List (List ℤ))) : Type 0 where
  pub first : Row
  pub others : List Row
  pub are : AreParts ty rows (first ∷ others)

longer : (row : List (List ℤ)) (rows : List (List (List ℤ))) (parts : List Row) → All (λ p. length (row_of p) ≤ cells rows) parts → All (λ p. length (row_of p) ≤ cells (row ∷ rows)) parts
longer row rows [] all = All-nil _
longer row rows (p ∷ ps) all =
    let sum = length-append row (flat_map (λ r. r) rows) in
    let here : length (row_of p) ≤ cells rows = All-head (λ p. length (row_of p) ≤ cells rows) p ps all in
    All-cons (λ p. length (row_of p) ≤ cells (row ∷ rows)) p ps (omega arith) (longer row rows ps (All-tail (λ p. length (row_of p) ≤ cells rows) p ps all))

-- rows of k cells, where k is at least 1
parts_of : (ty : List Width) (k : ℕ) (rows : List (List (List ℤ))) → 1 ≤ k → All (λ row. length row ≡ k) rows → All (All (Admits ty)) rows → (parts : List Row) × AreParts ty rows parts
parts_of ty k [] some even admitted = ([], record { same = refl; admitted = All-nil _; few = All-nil _ })
parts_of ty k ([] ∷ rows) some even admitted = let long : 0 ≡ k = All-head (λ row. length row ≡ k) [] rows even in absurd (omega arith)
parts_of ty k ((e ∷ es) ∷ rows) some even admitted =
    let rest = parts_of ty k rows some (All-tail (λ row. length row ≡ k) (e ∷ es) rows even) (All-tail (All (Admits ty)) (e ∷ es) rows admitted) in
    let here : length (e ∷ es) ≤ cells ((e ∷ es) ∷ rows) = let sum = length-append (e ∷ es) (flat_map (λ r. r) rows) in omega arith in (
      (e, es) ∷ rest.0,
      record {
        same = ap (λ rs. (e ∷ es) ∷ rs) rest.1.same;
        admitted = All-cons (λ p. All (Admits ty) (row_of p)) (e, es) rest.0 (All-head (All (Admits ty)) (e ∷ es) rows admitted) rest.1.admitted;
        few = All-cons (λ p. length (row_of p) ≤ cells ((e ∷ es) ∷ rows)) (e, es) rest.0 here (longer (e ∷ es) rows rest.0 rest.1.few);
      },
    )

some_parts : (ty : List Width) (rows : List (List (List ℤ))) (parts : List Row) → 1 ≤ length rows → AreParts ty rows parts → Parts ty rows
some_parts ty rows [] some are = let none = ap length are.same in absurd (omega arith)
some_parts ty rows (p ∷ ps) some are = record { first = p; others = ps; are = are }

pub table_parts : (ty : List Width) (rows : List (List (List ℤ))) → IsTable ty rows → Parts ty rows
table_parts ty rows table = let parts = parts_of ty _ rows table.some_column table.even table.admitted in some_parts ty rows parts.0 table.some_row parts.1

-- the fold of a row
abbrev pub whole : {C : Type 0} → (List ℤ → C) → (C → C → C) → Row → C
whole lifted across p = fold (step lifted across) (lifted p.0) p.1

module _ {C : Type 0} (lifted : List ℤ → C) (down across : C → C → C) where
  rows_from : (a : C) (ps : List Row) → fold (step (fold_of lifted across) (beside down)) (Some a) (map row_of ps) ≡ Some (fold (step (whole lifted across) down) a ps)
  rows_from a [] = refl
  rows_from a (p ∷ ps) = rows_from (down a (whole lifted across p)) ps

  -- the fold of a matrix is that of the folds of its rows
  pub fold_rows-parts : (p : Row) (ps : List Row) → fold_rows lifted down across (map row_of (p ∷ ps)) ≡ Some (fold (step (whole lifted across) down) (whole lifted across p) ps)
  fold_rows-parts p ps = rows_from (whole lifted across p) ps
