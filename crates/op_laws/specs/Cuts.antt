-- Matrices that are cut in two, folded by an operator that abides.
use Rattle.std.specs.Prelude.{◌≡◌, ℕ, ◌≤◌, ℤ, List, ◌++◌, length, map}
use Rattle.std.specs.List.{All, flat_map}
use Rattle.op_laws.specs.declared.TheConstants.{MAX_ELEMENTS}
use Rattle.op_laws.specs.declared.width.Width.{Width}
use Rattle.op_laws.specs.Admits.{Admits}
use Rattle.op_laws.specs.Folds.{fold_rows, beside}

-- how many cells rows have
abbrev pub cells : {X : Type 0} → List (List X) → ℕ
cells rows = length (flat_map (λ row. row) rows)

-- a left and a right part of a row
abbrev pub Halves : Type 0
Halves = List (List ℤ) × List (List ℤ)

-- rows of elements of a type, cut in two: the left parts are equally long, and so are the right ones
pub record AreHalves (ty : List Width) (k l : ℕ) (ps : List Halves) : Type 0 where
  pub left_long : All (λ row. length row ≡ k) (map (λ p. p.0) ps)
  pub right_long : All (λ row. length row ≡ l) (map (λ p. p.1) ps)
  pub left_admitted : All (All (Admits ty)) (map (λ p. p.0) ps)
  pub right_admitted : All (All (Admits ty)) (map (λ p. p.1) ps)

-- the fold of a matrix is that of its upper part and below it that of its lower one, and that of its left part and to the right of it that of its right one
pub record AreCut {C : Type 0} (takes : List Width → Type 0) (lifted : List ℤ → C) (down across : C → C → C) : Type 0 where
  pub by_rows : (ty : List Width) (upper lower : List (List (List ℤ))) → takes ty → cells (upper ++ lower) ≤ MAX_ELEMENTS → All (All (Admits ty)) (upper ++ lower)
      → fold_rows lifted down across (upper ++ lower) ≡ beside down (fold_rows lifted down across upper) (fold_rows lifted down across lower)
  pub by_columns : (ty : List Width) (k l : ℕ) (ps : List Halves) → takes ty → cells (map (λ p. p.0 ++ p.1) ps) ≤ MAX_ELEMENTS → AreHalves ty k l ps
      → fold_rows lifted down across (map (λ p. p.0 ++ p.1) ps) ≡ beside across (fold_rows lifted down across (map (λ p. p.0) ps)) (fold_rows lifted down across (map (λ p. p.1) ps))
