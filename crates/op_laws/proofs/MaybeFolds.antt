-- Values that may be missing, and the folds of matrices that are cut.
use Rattle.std.proofs.Common.{◌≡◌, ℕ, zero, suc, ◌+◌, ◌<◌, ◌≤◌, List, [], ◌∷◌, ◌++◌, length, Option, Some, None, refl, ap, arith, sym, ◌∙◌, subst, unwrap_or, map}
use Rattle.std.specs.List.{fold, All}
use Rattle.std.proofs.lemmas.List.Elements.{All-head, All-tail, All-cons, All-nil, All-append}
use Rattle.op_laws.specs.declared.TheConstants.{MAX_ELEMENTS}
use Rattle.op_laws.specs.Laws.{CombineLaws, AbideLaws}
use Rattle.op_laws.specs.Folds.{step, fold_of, fold_rows, beside, weight_of}
use Rattle.op_laws.proofs.WeighedFolds.{weight-append, fits-fold_of, fold_of-append}

-- a value that may be missing fits what it stands for, and stands for nothing where it is
abbrev pub MayFit : {C : Type 0} → (C → ℕ → Type 0) → Option C → ℕ → Type 0
MayFit fits None n = n ≡ 0
MayFit fits (Some c) n = fits c n

module _ {C : Type 0} {combined : C → C → C} {fits : C → ℕ → Type 0} (laws : CombineLaws combined fits) where
  beside_fits : (a : Option C) (m : ℕ) (b : Option C) (n : ℕ) → m + n ≤ MAX_ELEMENTS → MayFit fits a m → MayFit fits b n → MayFit fits (beside combined a b) (m + n)
  beside_fits None m b n few fa fb = subst (MayFit fits b) (let e : n ≡ m + n = omega arith in e) fb
  beside_fits (Some a) m None n few fa fb = subst (fits a) (let e : m ≡ m + n = omega arith in e) fa
  beside_fits (Some a) m (Some b) n few fa fb = laws.combined_fits a m b n few fa fb

  beside_associative : (a : Option C) (l : ℕ) (b : Option C) (m : ℕ) (c : Option C) (n : ℕ) → l + m + n ≤ MAX_ELEMENTS → MayFit fits a l → MayFit fits b m → MayFit fits c n
      → beside combined (beside combined a b) c ≡ beside combined a (beside combined b c)
  beside_associative None l b m c n few fa fb fc = refl
  beside_associative (Some a) l None m c n few fa fb fc = refl
  beside_associative (Some a) l (Some b) m None n few fa fb fc = refl
  beside_associative (Some a) l (Some b) m (Some c) n few fa fb fc = ap Some (laws.associative a l b m c n few fa fb fc)

  pub beside_laws : CombineLaws (beside combined) (MayFit fits)
  beside_laws = record { combined_fits = beside_fits; associative = beside_associative }

-- both are missing, or neither is
abbrev pub AreAlike : {C : Type 0} → Option C → Option C → Type 0
AreAlike None None = Unit {0}
AreAlike None (Some b) = ⊥
AreAlike (Some a) None = ⊥
AreAlike (Some a) (Some b) = Unit {0}

module _ {C : Type 0} {down across : C → C → C} {fits : C → ℕ → Type 0} (laws : AbideLaws down across fits) where
  -- four parts, of which those in one column may be missing
  abide_beside : (a : Option C) (k : ℕ) (b : Option C) (l : ℕ) (c : Option C) (m : ℕ) (d : Option C) (n : ℕ) → k + l + m + n ≤ MAX_ELEMENTS → MayFit fits a k → MayFit fits b l → MayFit fits c m → MayFit fits d n
      → AreAlike a c → AreAlike b d → beside down (beside across a b) (beside across c d) ≡ beside across (beside down a c) (beside down b d)
  abide_beside None k b l None m d n few fa fb fc fd u v = refl
  abide_beside None k b l (Some c) m d n few fa fb fc fd u v = absurd u
  abide_beside (Some a) k b l None m d n few fa fb fc fd u v = absurd u
  abide_beside (Some a) k None l (Some c) m None n few fa fb fc fd u v = refl
  abide_beside (Some a) k None l (Some c) m (Some d) n few fa fb fc fd u v = absurd v
  abide_beside (Some a) k (Some b) l (Some c) m None n few fa fb fc fd u v = absurd v
  abide_beside (Some a) k (Some b) l (Some c) m (Some d) n few fa fb fc fd u v = ap Some (laws.abide a k b l c m d n few fa fb fc fd)

beside-none : {C : Type 0} (combined : C → C → C) (a : Option C) → beside combined a None ≡ a
beside-none combined None = refl
beside-none combined (Some a) = refl

-- two folds side by side, each with its own for nothing
or_beside : {C : Type 0} (combined : C → C → C) (p q : Option (Option C)) → unwrap_or (beside (beside combined) p q) None ≡ beside combined (unwrap_or p None) (unwrap_or q None)
or_beside combined None q = refl
or_beside combined (Some a) None = sym (beside-none combined a)
or_beside combined (Some a) (Some b) = refl

module _ {A C : Type 0} {down across : C → C → C} {fits : C → ℕ → Type 0} (laws : AbideLaws down across fits) (lifted : A → C) (weight : A → ℕ) where
  abbrev CellFits : A → Type 0
  CellFits a = fits (lifted a) (weight a)

  abbrev RowFits : List A → Type 0
  RowFits row = MayFit fits (fold_of lifted across row) (weight_of weight row)

  abbrev total : List (List A) → ℕ
  total rows = weight_of (weight_of weight) rows

  -- the fold of a row of cells that fit
  pub row_fits : (row : List A) → weight_of weight row ≤ MAX_ELEMENTS → All CellFits row → RowFits row
  row_fits [] few all = refl
  row_fits (x ∷ xs) few all = fits-fold_of laws.across_laws lifted weight (x ∷ xs) few all

  pub rows_fit : (rows : List (List A)) → total rows ≤ MAX_ELEMENTS → All (All CellFits) rows → All RowFits rows
  rows_fit [] few all = All-nil RowFits
  rows_fit (row ∷ rows) few all =
      All-cons RowFits row rows (row_fits row (omega arith) (All-head (All CellFits) row rows all)) (rows_fit rows (omega arith) (All-tail (All CellFits) row rows all))

  -- a matrix may be cut between any two rows
  pub fold_rows-append : (xs ys : List (List A)) → total xs + total ys ≤ MAX_ELEMENTS → All RowFits (xs ++ ys)
      → fold_rows lifted down across (xs ++ ys) ≡ beside down (fold_rows lifted down across xs) (fold_rows lifted down across ys)
  fold_rows-append xs ys few all =
      ap (λ o. unwrap_or o None) (fold_of-append (beside_laws laws.down_laws) (fold_of lifted across) (weight_of weight) xs ys few all)
      ∙ or_beside down (fold_of (fold_of lifted across) (beside down) xs) (fold_of (fold_of lifted across) (beside down) ys)

  -- the first row, and those below it
  pub fold_rows-front : (row : List A) (rows : List (List A)) → weight_of weight row + total rows ≤ MAX_ELEMENTS → All RowFits (row ∷ rows)
      → fold_rows lifted down across (row ∷ rows) ≡ beside down (fold_of lifted across row) (fold_rows lifted down across rows)
  fold_rows-front row rows few all = fold_rows-append (row ∷ []) rows (omega arith) all

  -- the fold of rows of no cells is missing, and that of some rows of some cells isn't
  no_cells : (rows : List (List A)) → All (λ row. length row ≡ 0) rows → fold_rows lifted down across rows ≡ None
  no_cells rows all = none_of rows all None refl
    where
      none_of : (rows : List (List A)) → All (λ row. length row ≡ 0) rows → (held : Option C) → held ≡ None → fold_rows lifted down across rows ≡ None
      none_of [] all held e = refl
      none_of (row ∷ rows) all held e = stays rows (All-tail (λ r. length r ≡ 0) row rows all) (fold_of lifted across row) (of_none row (All-head (λ r. length r ≡ 0) row rows all))
        where
          of_none : (row : List A) → length row ≡ 0 → fold_of lifted across row ≡ None
          of_none [] z = refl
          of_none (x ∷ xs) z = absurd (omega arith)

          stays : (rows : List (List A)) → All (λ r. length r ≡ 0) rows → (held : Option C) → held ≡ None → fold (step (fold_of lifted across) (beside down)) held rows ≡ None
          stays [] all held e = e
          stays (r ∷ rs) all held e =
              let here : beside down held (fold_of lifted across r) ≡ None = ap (λ h. beside down h (fold_of lifted across r)) e ∙ of_none r (All-head (λ q. length q ≡ 0) r rs all) in
              stays rs (All-tail (λ q. length q ≡ 0) r rs all) (beside down held (fold_of lifted across r)) here

  -- the fold of a matrix fits its weight
  pub fold_fits : (rows : List (List A)) → total rows ≤ MAX_ELEMENTS → All RowFits rows → MayFit fits (fold_rows lifted down across rows) (total rows)
  fold_fits [] few all = refl
  fold_fits (row ∷ rows) few all = fits-fold_of (beside_laws laws.down_laws) (fold_of lifted across) (weight_of weight) (row ∷ rows) few all

  -- the fold of a row of some cells is there, and so is what is combined with it
  is_there : (row : List A) (rest : Option C) → 0 < length row → (c : C) × (beside down (fold_of lifted across row) rest ≡ Some c)
  is_there [] rest some = absurd (omega arith)
  is_there (x ∷ xs) None some = (_, refl)
  is_there (x ∷ xs) (Some c) some = (_, refl)

  -- a row and the rows below it, all of one length, are both missing, or neither is
  alike : (n : ℕ) (row : List A) (rows : List (List A)) → 0 < length rows → total rows ≤ MAX_ELEMENTS → All RowFits rows → length row ≡ n → All (λ r. length r ≡ n) rows
      → AreAlike (fold_of lifted across row) (fold_rows lifted down across rows)
  alike zero [] rows some few fit here all = subst (AreAlike None) (sym (no_cells rows all)) tt
  alike zero (x ∷ xs) rows some few fit here all = absurd (omega arith)
  alike (suc n) [] rows some few fit here all = absurd (omega arith)
  alike (suc n) (x ∷ xs) [] some few fit here all = absurd (omega arith)
  alike (suc n) (x ∷ xs) (r ∷ rs) some few fit here all =
      let long = All-head (λ q. length q ≡ suc n) r rs all in
      let (c, is) = is_there r (fold_rows lifted down across rs) (omega arith) in
      subst (AreAlike (fold_of lifted across (x ∷ xs))) (sym (fold_rows-front r rs few fit ∙ is)) tt

  -- rows that are put together from a left and a right part each
  abbrev pub Halves : Type 0
  Halves = List A × List A

  abbrev pub lefts : List Halves → List (List A)
  lefts ps = map (λ p. p.0) ps

  abbrev pub rights : List Halves → List (List A)
  rights ps = map (λ p. p.1) ps

  abbrev pub wholes : List Halves → List (List A)
  wholes ps = map (λ p. p.0 ++ p.1) ps

  -- the left parts are equally long, and so are the right ones, and all cells fit
  pub record AreHalves (k l : ℕ) (ps : List Halves) : Type 0 where
    pub left_long : All (λ row. length row ≡ k) (lefts ps)
    pub right_long : All (λ row. length row ≡ l) (rights ps)
    pub left_fit : All (All CellFits) (lefts ps)
    pub right_fit : All (All CellFits) (rights ps)

  halves_below : (k l : ℕ) (p : Halves) (ps : List Halves) → AreHalves k l (p ∷ ps) → AreHalves k l ps
  halves_below k l p ps h = record {
    left_long = All-tail (λ row. length row ≡ k) p.0 (lefts ps) h.left_long;
    right_long = All-tail (λ row. length row ≡ l) p.1 (rights ps) h.right_long;
    left_fit = All-tail (All CellFits) p.0 (lefts ps) h.left_fit;
    right_fit = All-tail (All CellFits) p.1 (rights ps) h.right_fit;
  }

  pub total-halves : (ps : List Halves) → total (wholes ps) ≡ total (lefts ps) + total (rights ps)
  total-halves [] = refl
  total-halves (p ∷ ps) = let rest = total-halves ps in let here = weight-append weight p.0 p.1 in omega arith

  wholes_fit : (k l : ℕ) (ps : List Halves) → AreHalves k l ps → All (All CellFits) (wholes ps)
  wholes_fit k l [] h = All-nil (All CellFits)
  wholes_fit k l (p ∷ ps) h =
      All-cons (All CellFits) (p.0 ++ p.1) (wholes ps)
      (All-append CellFits p.0 p.1 (All-head (All CellFits) p.0 (lefts ps) h.left_fit) (All-head (All CellFits) p.1 (rights ps) h.right_fit))
      (wholes_fit k l ps (halves_below k l p ps h))

  -- a matrix may be cut between any two columns
  pub fold_rows-columns : (k l : ℕ) (ps : List Halves) → AreHalves k l ps → total (lefts ps) + total (rights ps) ≤ MAX_ELEMENTS
      → fold_rows lifted down across (wholes ps) ≡ beside across (fold_rows lifted down across (lefts ps)) (fold_rows lifted down across (rights ps))
  fold_rows-columns k l [] h few = refl
  fold_rows-columns k l (p ∷ []) h few =
      let cells = All-append CellFits p.0 p.1 (All-head (All CellFits) p.0 [] h.left_fit) (All-head (All CellFits) p.1 [] h.right_fit) in
      fold_of-append laws.across_laws lifted weight p.0 p.1 (omega arith) cells
  fold_rows-columns k l (p ∷ q ∷ ps) h few =
      let below = halves_below k l p (q ∷ ps) h in
      let sum = total-halves (q ∷ ps) in let here = weight-append weight p.0 p.1 in
      let cells = All-append CellFits p.0 p.1 (All-head (All CellFits) p.0 (lefts (q ∷ ps)) h.left_fit) (All-head (All CellFits) p.1 (rights (q ∷ ps)) h.right_fit) in
      let whole_fit = rows_fit (wholes (p ∷ q ∷ ps)) (omega arith) (wholes_fit k l (p ∷ q ∷ ps) h) in
      let left_fit = rows_fit (lefts (p ∷ q ∷ ps)) (omega arith) h.left_fit in
      let right_fit = rows_fit (rights (p ∷ q ∷ ps)) (omega arith) h.right_fit in
      let left_below = rows_fit (lefts (q ∷ ps)) (omega arith) below.left_fit in
      let right_below = rows_fit (rights (q ∷ ps)) (omega arith) below.right_fit in
      let a = fold_of lifted across p.0 in let b = fold_of lifted across p.1 in
      let c = fold_rows lifted down across (lefts (q ∷ ps)) in let d = fold_rows lifted down across (rights (q ∷ ps)) in
      fold_rows-front (p.0 ++ p.1) (wholes (q ∷ ps)) (omega arith) whole_fit
      ∙ ap (λ x. beside down x (fold_rows lifted down across (wholes (q ∷ ps)))) (fold_of-append laws.across_laws lifted weight p.0 p.1 (omega arith) cells)
      ∙ ap (beside down (beside across a b)) (fold_rows-columns k l (q ∷ ps) below (omega arith))
      ∙ abide_beside laws a (weight_of weight p.0) b (weight_of weight p.1) c (total (lefts (q ∷ ps))) d (total (rights (q ∷ ps))) (omega arith)
      (All-head RowFits p.0 (lefts (q ∷ ps)) left_fit) (All-head RowFits p.1 (rights (q ∷ ps)) right_fit)
      (fold_fits (lefts (q ∷ ps)) (omega arith) left_below) (fold_fits (rights (q ∷ ps)) (omega arith) right_below)
      (alike k p.0 (lefts (q ∷ ps)) (omega arith) (omega arith) left_below (All-head (λ row. length row ≡ k) p.0 (lefts (q ∷ ps)) h.left_long) below.left_long)
      (alike l p.1 (rights (q ∷ ps)) (omega arith) (omega arith) right_below (All-head (λ row. length row ≡ l) p.1 (rights (q ∷ ps)) h.right_long) below.right_long)
      ∙ ap (λ x. beside across x (beside down b d)) (sym (fold_rows-front p.0 (lefts (q ∷ ps)) (omega arith) left_fit))
      ∙ ap (beside across (fold_rows lifted down across (lefts (p ∷ q ∷ ps)))) (sym (fold_rows-front p.1 (rights (q ∷ ps)) (omega arith) right_fit))
