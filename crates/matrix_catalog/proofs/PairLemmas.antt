-- The finished fold of a matrix is what the two names make of it, one lemma for each way to join.
use Rattle.std.proofs.Common.{◌≡◌, ℕ, ◌≤◌, ℤ, List, [], ◌∷◌, length, map, Some, unwrap_or, refl, ap, sym, ◌∙◌, arith}
use Rattle.std.specs.Option.{option_map}
use Rattle.std.specs.List.{fold, All}
use Rattle.std.proofs.lemmas.List.Elements.{All-head, All-tail, All-cons, All-nil}
use Rattle.op_laws.specs.declared.TheConstants.{MAX_ELEMENTS}
use Rattle.op_laws.specs.declared.width.Width.{Width}
use Rattle.op_laws.specs.Admits.{Admits}
use Rattle.op_laws.specs.Laws.{LiftLaws, CombineLaws}
use Rattle.op_laws.specs.Folds.{step, fold_rows}
use Rattle.op_laws.proofs.FoldLemmas.{fits-fold_of}
use Rattle.op_catalog.specs.declared.list_op.ListOp.{ListOp}
use Rattle.op_catalog.specs.declared.list_op.ListOp.TheVariants.{Add, Mul, Min, Max, And, Or, Xor, Mss, Affine, First, Last}
use Rattle.op_catalog.specs.Catalog.{typed_of, reduction_of}
use Rattle.op_catalog.specs.Ends.{last_element}
use Rattle.op_catalog.specs.Operators.{IsOperatorOf}
use Rattle.op_catalog.proofs.EndMeanings.{fold-last}
use Rattle.matrix_catalog.specs.Operators.{IsCommutingOf}
use Rattle.matrix_catalog.specs.Pairs.{governing, value_of, pair_value, IsTable, IsPairOf}
use Rattle.matrix_catalog.proofs.RowFolds.{Row, row_of, table_parts, whole, fold_rows-parts}

-- ---- types

first_governs : (across : ListOp) (ty : List Width) → typed_of (governing First across) ty ≡ typed_of across ty
first_governs Add ty = refl
first_governs Mul ty = refl
first_governs Min ty = refl
first_governs Max ty = refl
first_governs And ty = refl
first_governs Or ty = refl
first_governs Xor ty = refl
first_governs Mss ty = refl
first_governs Affine ty = refl
first_governs First ty = refl
first_governs Last ty = refl

last_governs : (across : ListOp) (ty : List Width) → typed_of (governing Last across) ty ≡ typed_of across ty
last_governs Add ty = refl
last_governs Mul ty = refl
last_governs Min ty = refl
last_governs Max ty = refl
last_governs And ty = refl
last_governs Or ty = refl
last_governs Xor ty = refl
last_governs Mss ty = refl
last_governs Affine ty = refl
last_governs First ty = refl
last_governs Last ty = refl

end_across : (down : ListOp) (ty : List Width) → (typed_of (governing down First) ty ≡ typed_of down ty) × (typed_of (governing down Last) ty ≡ typed_of down ty)
end_across Add ty = (refl, refl)
end_across Mul ty = (refl, refl)
end_across Min ty = (refl, refl)
end_across Max ty = (refl, refl)
end_across And ty = (refl, refl)
end_across Or ty = (refl, refl)
end_across Xor ty = (refl, refl)
end_across Mss ty = (refl, refl)
end_across Affine ty = (refl, refl)
end_across First ty = (refl, refl)
end_across Last ty = (refl, refl)

same_governs : (op : ListOp) (ty : List Width) → typed_of (governing op op) ty ≡ typed_of op ty
same_governs Add ty = refl
same_governs Mul ty = refl
same_governs Min ty = refl
same_governs Max ty = refl
same_governs And ty = refl
same_governs Or ty = refl
same_governs Xor ty = refl
same_governs Mss ty = refl
same_governs Affine ty = refl
same_governs First ty = refl
same_governs Last ty = refl

-- ---- folds of rows, with no law

module _ {C : Type 0} (lifted : List ℤ → C) (combined : C → C → C) where
  -- of the folds of the rows the first
  first_kept : (a : C) (ps : List Row) → fold (step (whole lifted combined) (λ a b. a)) a ps ≡ a
  first_kept a [] = refl
  first_kept a (p ∷ ps) = first_kept a ps

  wholes_from : (a : C) (ps : List Row) → fold (step (whole lifted combined) combined) a ps ≡ fold combined a (map (whole lifted combined) ps)
  wholes_from a [] = refl
  wholes_from a (p ∷ ps) = wholes_from (combined a (whole lifted combined p)) ps

-- of the cells of a row the first, and the last
first_from : {C : Type 0} (lifted : List ℤ → C) (c : C) (es : List (List ℤ)) → fold (step lifted (λ a b. a)) c es ≡ c
first_from lifted c [] = refl
first_from lifted c (e ∷ es) = first_from lifted c es

abbrev last_cell : Row → List ℤ
last_cell p = fold (step (λ e. e) (λ a b. b)) p.0 p.1

last_from : {C : Type 0} (lifted : List ℤ → C) (e : List ℤ) (es : List (List ℤ)) → fold (step lifted (λ a b. b)) (lifted e) es ≡ lifted (fold (step (λ e. e) (λ a b. b)) e es)
last_from lifted e [] = refl
last_from lifted e (d ∷ es) = last_from lifted d es

last_admitted : (ty : List Width) (e : List ℤ) (es : List (List ℤ)) → All (Admits ty) (e ∷ es) → Admits ty (fold (step (λ e. e) (λ a b. b)) e es)
last_admitted ty e [] all = All-head (Admits ty) e [] all
last_admitted ty e (d ∷ es) all = last_admitted ty d es (All-tail (Admits ty) e (d ∷ es) all)

short_rows : (n : ℕ) (ps : List Row) → n ≤ MAX_ELEMENTS → All (λ p. length (row_of p) ≤ n) ps → All (λ p. length (row_of p) ≤ MAX_ELEMENTS) ps
short_rows n [] few all = All-nil _
short_rows n (p ∷ ps) few all =
    let here : length (row_of p) ≤ n = All-head (λ p. length (row_of p) ≤ n) p ps all in
    All-cons (λ p. length (row_of p) ≤ MAX_ELEMENTS) p ps (omega arith) (short_rows n ps few (All-tail (λ p. length (row_of p) ≤ n) p ps all))

-- the fold of a row is one of its cells, which is what the name across makes of it
record Picks {C : Type 0} (lifted : List ℤ → C) (keep : C → C → C) (across : ListOp) (ty : List Width) (pick : Row → List ℤ) : Type 0 where
  pub folds : (p : Row) → whole lifted keep p ≡ lifted (pick p)
  pub value : (p : Row) → value_of across ty (row_of p) ≡ pick p
  pub admitted : (p : Row) → All (Admits ty) (row_of p) → Admits ty (pick p)

first_picks : {C : Type 0} (lifted : List ℤ → C) (ty : List Width) → Picks lifted (λ a b. a) First ty (λ p. p.0)
first_picks lifted ty = record {
  folds = λ p. first_from lifted (lifted p.0) p.1;
  value = λ p. refl;
  admitted = λ p all. All-head (Admits ty) p.0 p.1 all;
}

last_picks : {C : Type 0} (lifted : List ℤ → C) (ty : List Width) → Picks lifted (λ a b. b) Last ty last_cell
last_picks lifted ty = record {
  folds = λ p. last_from lifted p.0 p.1;
  value = λ p. ap (λ o. unwrap_or o []) (fold-last p.0 p.1);
  admitted = λ p all. last_admitted ty p.0 p.1 all;
}

module _ {C : Type 0} {lifted : List ℤ → C} {keep : C → C → C} {across : ListOp} {ty : List Width} {pick : Row → List ℤ} (picks : Picks lifted keep across ty pick) where
  picked_from : (combined : C → C → C) (a : C) (ps : List Row) → fold (step (whole lifted keep) combined) a ps ≡ fold (step lifted combined) a (map pick ps)
  picked_from combined a [] = refl
  picked_from combined a (p ∷ ps) = ap (λ c. fold (step (whole lifted keep) combined) (combined a c) ps) (picks.folds p) ∙ picked_from combined (combined a (lifted (pick p))) ps

  picked_values : (ps : List Row) → map (value_of across ty) (map row_of ps) ≡ map pick ps
  picked_values [] = refl
  picked_values (p ∷ ps) = let here = picks.value p in let rest = picked_values ps in cc

  picked_admitted : (ps : List Row) → All (λ p. All (Admits ty) (row_of p)) ps → All (Admits ty) (map pick ps)
  picked_admitted [] all = All-nil (Admits ty)
  picked_admitted (p ∷ ps) all =
      All-cons (Admits ty) (pick p) (map pick ps) (picks.admitted p (All-head (λ p. All (Admits ty) (row_of p)) p ps all))
      (picked_admitted ps (All-tail (λ p. All (Admits ty) (row_of p)) p ps all))

-- ---- an operator on lists that is the one of a name

module _ {C : Type 0} {takes : List Width → Type 0} {gives : List Width → List Width} {finished : C → List ℤ} {lifted : List ℤ → C} {combined : C → C → C}
    (name : ListOp) (ty : List Width) (operator : IsOperatorOf takes gives finished lifted combined name ty) where
  -- what the name makes of a row
  row-value : (p : Row) → All (Admits ty) (row_of p) → value_of name ty (row_of p) ≡ finished (whole lifted combined p)
  row-value p all = ap (λ o. unwrap_or o []) (operator.reduces p.0 p.1 all)

  row-values : (ps : List Row) → All (λ p. All (Admits ty) (row_of p)) ps → map (value_of name ty) (map row_of ps) ≡ map finished (map (whole lifted combined) ps)
  row-values [] all = refl
  row-values (p ∷ ps) all =
      let here = row-value p (All-head (λ p. All (Admits ty) (row_of p)) p ps all) in
      let rest = row-values ps (All-tail (λ p. All (Admits ty) (row_of p)) p ps all) in
      cc

  pub first_down : IsPairOf takes gives finished lifted (λ a b. a) combined First name ty
  first_down = record {
    taken = operator.taken;
    typed = first_governs name ty ∙ operator.typed;
    reduces = λ rows table.
        let parts = table_parts ty rows table in
        let p = parts.first in
        let ps = parts.others in
        let here = All-head (λ p. All (Admits ty) (row_of p)) p ps parts.are.admitted in
        rw parts.are.same (
        ap (option_map finished) (fold_rows-parts lifted (λ a b. a) combined p ps)
        ∙ ap (λ c. Some (finished c)) (first_kept lifted combined (whole lifted combined p) ps)
        ∙ ap Some (sym (row-value p here)));
  }

  last_kept : (p : Row) (ps : List Row) → All (λ p. All (Admits ty) (row_of p)) (p ∷ ps)
      → finished (fold (step (whole lifted combined) (λ a b. b)) (whole lifted combined p) ps) ≡ unwrap_or (last_element (map (value_of name ty) (map row_of (p ∷ ps)))) []
  last_kept p [] all = sym (row-value p (All-head (λ p. All (Admits ty) (row_of p)) p [] all))
  last_kept p (q ∷ ps) all = last_kept q ps (All-tail (λ p. All (Admits ty) (row_of p)) p (q ∷ ps) all)

  pub last_down : IsPairOf takes gives finished lifted (λ a b. b) combined Last name ty
  last_down = record {
    taken = operator.taken;
    typed = last_governs name ty ∙ operator.typed;
    reduces = λ rows table.
        let parts = table_parts ty rows table in
        let p = parts.first in
        let ps = parts.others in
        rw parts.are.same (
        ap (option_map finished) (fold_rows-parts lifted (λ a b. b) combined p ps)
        ∙ ap Some (last_kept p ps parts.are.admitted));
  }

  -- one cell of each row
  picked : (keep : C → C → C) (across : ListOp) (pick : Row → List ℤ) → Picks lifted keep across ty pick → (rows : List (List (List ℤ))) → IsTable ty rows
      → option_map finished (fold_rows lifted combined keep rows) ≡ Some (pair_value name across ty rows)
  picked keep across pick picks rows table =
      let parts = table_parts ty rows table in
      let p = parts.first in
      let ps = parts.others in
      let made = ap (reduction_of name ty) (picked_values picks (p ∷ ps)) ∙ operator.reduces (pick p) (map pick ps) (picked_admitted picks (p ∷ ps) parts.are.admitted) in
      rw parts.are.same (
      ap (option_map finished) (fold_rows-parts lifted combined keep p ps)
      ∙ ap (λ c. Some (finished (fold (step (whole lifted keep) combined) c ps))) (picks.folds p)
      ∙ ap (λ c. Some (finished c)) (picked_from picks combined (lifted (pick p)) ps)
      ∙ sym (ap (λ o. Some (unwrap_or o [])) made))

  pub first_across : IsPairOf takes gives finished lifted combined (λ a b. a) name First ty
  first_across = record {
    taken = operator.taken;
    typed = (end_across name ty).0 ∙ operator.typed;
    reduces = picked (λ a b. a) First (λ p. p.0) (first_picks lifted ty);
  }

  pub last_across : IsPairOf takes gives finished lifted combined (λ a b. b) name Last ty
  last_across = record {
    taken = operator.taken;
    typed = (end_across name ty).1 ∙ operator.typed;
    reduces = picked (λ a b. b) Last last_cell (last_picks lifted ty);
  }

-- ---- one operator both ways

module _ {C : Type 0} {takes : List Width → Type 0} {gives : List Width → List Width} {finished : C → List ℤ} {lifted : List ℤ → C} {combined : C → C → C} {fits : C → ℕ → Type 0}
    (lifts : LiftLaws takes gives lifted finished fits) (laws : CombineLaws combined fits) (ty : List Width) where
  -- a row's result is an element of the result's type
  results_admitted : takes ty → (ps : List Row) → All (λ p. length (row_of p) ≤ MAX_ELEMENTS) ps → All (λ p. All (Admits ty) (row_of p)) ps → All (λ c. Admits (gives ty) (finished c)) (map (whole lifted combined) ps)
  results_admitted taken [] few all = All-nil _
  results_admitted taken (p ∷ ps) few all =
      let short : length (row_of p) ≤ MAX_ELEMENTS = All-head (λ p. length (row_of p) ≤ MAX_ELEMENTS) p ps few in
      let fit = fits-fold_of lifts laws ty taken (row_of p) short (All-head (λ p. All (Admits ty) (row_of p)) p ps all) in
      All-cons (λ c. Admits (gives ty) (finished c)) (whole lifted combined p) (map (whole lifted combined) ps)
      (lifts.finished_admitted ty (whole lifted combined p) (length (row_of p)) taken short fit)
      (results_admitted taken ps (All-tail (λ p. length (row_of p) ≤ MAX_ELEMENTS) p ps few) (All-tail (λ p. All (Admits ty) (row_of p)) p ps all))

  both_ways : (name : ListOp) → IsCommutingOf takes gives finished lifted combined name name ty → (rows : List (List (List ℤ))) → IsTable ty rows
      → option_map finished (fold_rows lifted combined combined rows) ≡ Some (pair_value name name ty rows)
  both_ways name commuting rows table =
      let parts = table_parts ty rows table in
      let p = parts.first in
      let ps = parts.others in
      let short = short_rows _ (p ∷ ps) table.few parts.are.few in
      let results = results_admitted commuting.operator.taken (p ∷ ps) short parts.are.admitted in
      let made = ap (reduction_of name ty) (row-values name ty commuting.operator (p ∷ ps) parts.are.admitted)
      ∙ commuting.again (whole lifted combined p) (map (whole lifted combined) ps) results in
      rw parts.are.same (
      ap (option_map finished) (fold_rows-parts lifted combined combined p ps)
      ∙ ap (λ c. Some (finished c)) (wholes_from lifted combined (whole lifted combined p) ps)
      ∙ sym (ap (λ o. Some (unwrap_or o [])) made))

  pub same_both : (down across : ListOp) → IsCommutingOf takes gives finished lifted combined down across ty → IsPairOf takes gives finished lifted combined combined down across ty
  same_both down across commuting = rw commuting.same (record {
    taken = commuting.operator.taken;
    typed = same_governs down ty ∙ commuting.operator.typed;
    reduces = both_ways down (rw commuting.same at commuting);
  })
