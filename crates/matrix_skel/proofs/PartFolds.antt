-- Folds of parts of a matrix, of which each cell weighs one.
use Rattle.std.proofs.Common.{◌≡◌, ℕ, ◌+◌, ◌-◌, ◌*◌, ◌<◌, ◌≤◌, ℤ, List, [], Some, length, map, get_or, slice_range, ap, sym, ◌∙◌, arith, subst}
use Rattle.std.specs.List.{All}
use Rattle.std.proofs.Math.Nat.{add-mul, mul-add}
use Rattle.std.proofs.lemmas.List.Elements.{All-map}
use Rattle.std.proofs.lemmas.Nat.{mul-le}
use Rattle.op_laws.specs.declared.TheConstants.{MAX_ELEMENTS}
use Rattle.op_laws.specs.declared.width.Width.{Width}
use Rattle.op_laws.specs.Admits.{Admits}
use Rattle.op_laws.specs.Folds.{fold_rows, beside}
use Rattle.op_laws.specs.Laws.{LiftLaws, AbideLaws}
use Rattle.op_laws.specs.Cuts.{cells, AreCut, AreHalves}
use Rattle.matrix_skel.specs.Blocks.{part}
use Rattle.matrix_skel.specs.Given.{IsRect, IsPartFold}
use Rattle.matrix_skel.proofs.Parts.{range-whole, length-range, All-range, part-rows, part-cell, part-whole, halves, lefts-halves, rights-halves, wholes-halves, cells-part}

-- the weights of an upper and a lower part
pub rows-sum : (i k m w : ℕ) → i ≤ k → k ≤ m → (k - i) * w + (m - k) * w ≡ (m - i) * w
rows-sum i k m w first second =
    let sum : (k - i) + (m - k) ≡ m - i = omega arith in
    sym (add-mul (k - i) (m - k) w) ∙ ap (λ n. n * w) sum

-- the weights of a left and a right part
pub columns-sum : (h j l m : ℕ) → j ≤ l → l ≤ m → h * (l - j) + h * (m - l) ≡ h * (m - j)
columns-sum h j l m first second =
    let sum : (l - j) + (m - l) ≡ m - j = omega arith in
    sym (mul-add h (l - j) (m - l)) ∙ ap (λ n. h * n) sum

-- a part has few cells
pub part-few : (r c i k j l : ℕ) → r * c ≤ MAX_ELEMENTS → k ≤ r → l ≤ c → (k - i) * (l - j) ≤ MAX_ELEMENTS
part-few r c i k j l few tall wide = omega (arith, mul-le (k - i) (l - j) r c (omega arith) (omega arith), few)

pub rows-few : (r c i k m j l : ℕ) → r * c ≤ MAX_ELEMENTS → i ≤ k → k ≤ m → m ≤ r → l ≤ c → (k - i) * (l - j) + (m - k) * (l - j) ≤ MAX_ELEMENTS
rows-few r c i k m j l few first second tall wide = rw (rows-sum i k m (l - j) first second) (part-few r c i m j l few tall wide)

pub columns-few : (r c i k j l m : ℕ) → r * c ≤ MAX_ELEMENTS → k ≤ r → j ≤ l → l ≤ m → m ≤ c → (k - i) * (l - j) + (k - i) * (m - l) ≤ MAX_ELEMENTS
columns-few r c i k j l m few tall first second wide = rw (columns-sum (k - i) j l m first second) (part-few r c i k j m few tall wide)

-- the fold of one cell
pub cell-fold : {C : Type 0} {takes : List Width → Type 0} {gives : List Width → List Width} {lifted : List ℤ → C} {finished : C → List ℤ} {fits : C → ℕ → Type 0}
    (lifts : LiftLaws takes gives lifted finished fits) (down across : C → C → C) (ty : List Width) (taken : takes ty) (r c : ℕ) (rows : List (List (List ℤ))) (rect : IsRect ty r c rows)
    (i j : ℕ) (cell : List ℤ) (out : C) → i < r → j < c → cell ≡ get_or (get_or rows i []) j [] → Admits ty cell → out ≡ lifted cell → IsPartFold fits lifted down across rows i (i + 1) j (j + 1) out
cell-fold {lifted} {fits} lifts down across ty taken r c rows rect i j cell out row column is admitted lift =
    let here : i < length rows = omega (arith, rect.tall) in
    let within : j < length (get_or rows i []) = omega (arith, rect.wide i [] here) in
    let single : 1 ≡ ((i + 1) - i) * ((j + 1) - j) = let h : (i + 1) - i ≡ 1 = omega arith in let w : (j + 1) - j ≡ 1 = omega arith in sym (ap (λ n. n * ((j + 1) - j)) h ∙ ap (λ n. 1 * n) w) in
    record {
      value = ap (fold_rows lifted down across) (part-cell rows i j [] here within) ∙ ap (λ e. Some (lifted e)) (sym is) ∙ ap Some (sym lift);
      weight = subst (λ n. fits out n) single (subst (λ v. fits v 1) (sym lift) (lifts.lifted_fits ty cell taken admitted));
    }

-- by the law on cuts, for cells of a type that the operator takes
module _ {C : Type 0} {takes : List Width → Type 0} {lifted : List ℤ → C} {down across : C → C → C} (cut : AreCut takes lifted down across) (ty : List Width) (taken : takes ty)
    (r c : ℕ) (rows : List (List (List ℤ))) (rect : IsRect ty r c rows) where
  part_admitted : (i k j l : ℕ) → All (All (Admits ty)) (part rows i k j l)
  part_admitted i k j l =
      let rs = slice_range rows i k in
      let all = All-range (All (Admits ty)) rows i k rect.admitted in
      All-map (All (Admits ty)) (λ row. slice_range row j l) rs (λ n d below. All-range (Admits ty) (get_or rs n d) j l (all n d below))

  part_long : (i k j l : ℕ) → l ≤ c → All (λ row. length row ≡ l - j) (part rows i k j l)
  part_long i k j l within =
      let rs = slice_range rows i k in
      let all = All-range (λ row. length row ≡ c) rows i k rect.wide in
      All-map (λ (row : List (List ℤ)). length row ≡ l - j) (λ row. slice_range row j l) rs (λ n d below. length-range (get_or rs n d) j l (omega (arith, all n d below)))

  cells_few : (i k j l : ℕ) → k ≤ r → l ≤ c → cells (part rows i k j l) ≤ MAX_ELEMENTS
  cells_few i k j l tall wide = omega (arith, cells-part rows i k j l, part-few r c i k j l rect.few tall wide)

  -- a part that is cut between two rows
  fold-below : (i k m j l : ℕ) (a b : C) → i ≤ k → k ≤ m → m ≤ r → l ≤ c → fold_rows lifted down across (part rows i k j l) ≡ Some a → fold_rows lifted down across (part rows k m j l) ≡ Some b
      → fold_rows lifted down across (part rows i m j l) ≡ Some (down a b)
  fold-below i k m j l a b first second last wide upper lower =
      let join = part-rows rows i k m j l first second in
      let few = subst (λ rs. cells rs ≤ MAX_ELEMENTS) (sym join) (cells_few i m j l last wide) in
      let all = subst (All (All (Admits ty))) (sym join) (part_admitted i m j l) in
      ap (fold_rows lifted down across) (sym join)
      ∙ cut.by_rows ty (part rows i k j l) (part rows k m j l) taken few all
      ∙ ap (λ h. beside down h (fold_rows lifted down across (part rows k m j l))) upper
      ∙ ap (beside down (Some a)) lower

  -- a part that is cut between two columns
  fold-beside : (i k j l m : ℕ) (a b : C) → j ≤ l → l ≤ m → m ≤ c → k ≤ r → fold_rows lifted down across (part rows i k j l) ≡ Some a → fold_rows lifted down across (part rows i k l m) ≡ Some b
      → fold_rows lifted down across (part rows i k j m) ≡ Some (across a b)
  fold-beside i k j l m a b first second last tall left right =
      let rs = slice_range rows i k in
      let ps = halves j l m rs in
      let whole = wholes-halves j l m rs first second in
      let lefts = lefts-halves j l m rs in
      let rights = rights-halves j l m rs in
      let few = subst (λ rs. cells rs ≤ MAX_ELEMENTS) (sym whole) (cells_few i k j m tall last) in
      let are : AreHalves ty (l - j) (m - l) ps = record {
        left_long = subst (All (λ row. length row ≡ l - j)) (sym lefts) (part_long i k j l (omega arith));
        right_long = subst (All (λ row. length row ≡ m - l)) (sym rights) (part_long i k l m last);
        left_admitted = subst (All (All (Admits ty))) (sym lefts) (part_admitted i k j l);
        right_admitted = subst (All (All (Admits ty))) (sym rights) (part_admitted i k l m);
      } in
      ap (fold_rows lifted down across) (sym whole)
      ∙ cut.by_columns ty (l - j) (m - l) ps taken few are
      ∙ ap (λ x. beside across (fold_rows lifted down across x) (fold_rows lifted down across (map (λ p. p.1) ps))) lefts
      ∙ ap (λ x. beside across (fold_rows lifted down across (part rows i k j l)) (fold_rows lifted down across x)) rights
      ∙ ap (λ h. beside across h (fold_rows lifted down across (part rows i k l m))) left
      ∙ ap (beside across (Some a)) right

  module _ {fits : C → ℕ → Type 0} (laws : AbideLaws down across fits) where
    pub part-below : (i k m j l : ℕ) (a b out : C) → i ≤ k → k ≤ m → m ≤ r → l ≤ c → IsPartFold fits lifted down across rows i k j l a → IsPartFold fits lifted down across rows k m j l b → out ≡ down a b
        → IsPartFold fits lifted down across rows i m j l out
    part-below i k m j l a b out first second last wide upper lower is =
        let fit = laws.down_laws.combined_fits a ((k - i) * (l - j)) b ((m - k) * (l - j)) (rows-few r c i k m j l rect.few first second last wide) upper.weight lower.weight in
        record {
          value = fold-below i k m j l a b first second last wide upper.value lower.value ∙ ap Some (sym is);
          weight = subst (λ v. fits v ((m - i) * (l - j))) (sym is) (subst (λ n. fits (down a b) n) (rows-sum i k m (l - j) first second) fit);
        }

    pub part-beside : (i k j l m : ℕ) (a b out : C) → j ≤ l → l ≤ m → m ≤ c → k ≤ r → IsPartFold fits lifted down across rows i k j l a → IsPartFold fits lifted down across rows i k l m b → out ≡ across a b
        → IsPartFold fits lifted down across rows i k j m out
    part-beside i k j l m a b out first second last tall left right is =
        let fit = laws.across_laws.combined_fits a ((k - i) * (l - j)) b ((k - i) * (m - l)) (columns-few r c i k j l m rect.few tall first second last) left.weight right.weight in
        record {
          value = fold-beside i k j l m a b first second last tall left.value right.value ∙ ap Some (sym is);
          weight = subst (λ v. fits v ((k - i) * (m - j))) (sym is) (subst (λ n. fits (across a b) n) (columns-sum (k - i) j l m first second) fit);
        }

-- all rows and all columns
pub whole-part : (ty : List Width) (r c : ℕ) (rows : List (List (List ℤ))) → IsRect ty r c rows → part rows 0 r 0 c ≡ rows
whole-part ty r c rows rect = part-whole rows 0 r c rect.wide ∙ range-whole rows r rect.tall
