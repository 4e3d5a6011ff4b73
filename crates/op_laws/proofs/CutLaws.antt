-- Matrices of elements that are cut, for an operator that abides.
use Rattle.std.proofs.Common.{◌≡◌, ℕ, ℤ, List, [], ◌∷◌, ◌++◌, length-append, map, refl, arith}
use Rattle.std.specs.List.{All, flat_map}
use Rattle.std.proofs.lemmas.List.Elements.{All-weaker}
use Rattle.op_laws.specs.declared.width.Width.{Width}
use Rattle.op_laws.specs.Admits.{Admits}
use Rattle.op_laws.specs.Laws.{LiftLaws, AbideLaws}
use Rattle.op_laws.specs.Folds.{weight_of}
use Rattle.op_laws.specs.Cuts.{cells, AreCut}
use Rattle.op_laws.proofs.WeighedFolds.{weight-append, one, weight-ones}
use Rattle.op_laws.proofs.MaybeFolds.{rows_fit, fold_rows-append, fold_rows-columns, total-halves}

cells-weight : (rows : List (List (List ℤ))) → weight_of (weight_of one) rows ≡ cells rows
cells-weight [] = refl
cells-weight (row ∷ rows) = let here = weight-ones row in let rest = cells-weight rows in let sum = length-append row (flat_map (λ r. r) rows) in omega arith

module _ {C : Type 0} {takes : List Width → Type 0} {gives : List Width → List Width} {lifted : List ℤ → C} {finished : C → List ℤ} {fits : C → ℕ → Type 0} {down across : C → C → C}
    (lifts : LiftLaws takes gives lifted finished fits) (laws : AbideLaws down across fits) where
  module _ (ty : List Width) (taken : takes ty) where
    row_cells : (rows : List (List (List ℤ))) → All (All (Admits ty)) rows → All (All (λ e. fits (lifted e) 1)) rows
    row_cells rows all = All-weaker (All (Admits ty)) (All (λ e. fits (lifted e) 1)) (λ row. All-weaker (Admits ty) (λ e. fits (lifted e) 1) (λ e. lifts.lifted_fits ty e taken) row) rows all

  pub are_cut : AreCut takes lifted down across
  are_cut = record {
    by_rows = λ ty upper lower taken few all.
        let both = cells-weight (upper ++ lower) in let sum = weight-append (weight_of one) upper lower in
        fold_rows-append laws lifted one upper lower (omega arith) (rows_fit laws lifted one (upper ++ lower) (omega arith) (row_cells ty taken (upper ++ lower) all));
    by_columns = λ ty k l ps taken few halves.
        let both = cells-weight (map (λ p. p.0 ++ p.1) ps) in let sum = total-halves laws lifted one ps in
        fold_rows-columns laws lifted one k l ps
        (record { left_long = halves.left_long; right_long = halves.right_long; left_fit = row_cells ty taken _ halves.left_admitted; right_fit = row_cells ty taken _ halves.right_admitted })
        (omega arith);
  }
