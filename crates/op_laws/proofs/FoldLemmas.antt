-- Folds of lists of elements that are cut, and of blocks, prefixes and suffixes: the case of `WeighedFolds` where each weighs 1. Crates above cite these.
use Rattle.std.proofs.Common.{◌≡◌, ℕ, suc, ◌+◌, ◌<◌, ◌≤◌, ℤ, List, [], ◌∷◌, ◌++◌, Some, None, length, get_or, take, drop, refl, ap, arith, add-one, unwrap_or, sym, ◌∙◌, subst, IfSome}
use Rattle.std.specs.List.{fold, flat_map, All}
use Rattle.std.proofs.Math.Seq.{take-add, drop-cons}
use Rattle.std.proofs.lemmas.List.{take_more, append-nil, length-append, length-take, length-drop}
use Rattle.std.proofs.lemmas.List.Sums.{fold_push}
use Rattle.std.proofs.lemmas.List.Elements.{All-take, All-drop, All-weaker}
use Rattle.op_laws.specs.declared.TheConstants.{MAX_ELEMENTS}
use Rattle.op_laws.specs.declared.width.Width.{Width}
use Rattle.op_laws.specs.Admits.{Admits}
use Rattle.op_laws.specs.Laws.{LiftLaws, CombineLaws, UnitLaws}
use Rattle.op_laws.specs.Folds.{step, fold_of, fold_or, beside, with_next, with_front}
use Rattle.op_laws.proofs.WeighedFolds as weighed
pub use Rattle.op_laws.proofs.WeighedFolds.{All-front, All-back}
use Rattle.op_laws.proofs.WeighedFolds.{one, weight-ones}

-- with no law
module _ {C : Type 0} (lifted : List ℤ → C) (combined : C → C → C) where
  -- one element more
  pub fold_of-push : (es : List (List ℤ)) (e : List ℤ) → fold_of lifted combined (es ++ e ∷ []) ≡ Some (with_next combined (fold_of lifted combined es) (lifted e))
  fold_of-push [] e = refl
  fold_of-push (d ∷ es) e = ap Some (fold_push (step lifted combined) (lifted d) es e)

  -- the prefix that is longer by one
  pub fold_of-more : (es : List (List ℤ)) (i : ℕ) → i < length es → fold_of lifted combined (take (i + 1) es) ≡ Some (with_next combined (fold_of lifted combined (take i es)) (lifted (get_or es i [])))
  fold_of-more es i within = ap (fold_of lifted combined) (take_more es i [] within) ∙ fold_of-push (take i es) (get_or es i [])

-- with the law on cuts, for elements of a type that the operator takes
module _ {C : Type 0} {takes : List Width → Type 0} {gives : List Width → List Width} {lifted : List ℤ → C} {finished : C → List ℤ} {fits : C → ℕ → Type 0} {combined : C → C → C}
    (lifts : LiftLaws takes gives lifted finished fits) (laws : CombineLaws combined fits) (ty : List Width) (taken : takes ty) where
  abbrev Fits : List ℤ → Type 0
  Fits e = fits (lifted e) 1

  each_fits : (es : List (List ℤ)) → All (Admits ty) es → All Fits es
  each_fits es all = All-weaker (Admits ty) Fits (λ e. lifts.lifted_fits ty e taken) es all

  -- the fold of a list fits its length
  pub fits-fold_of : (es : List (List ℤ)) → length es ≤ MAX_ELEMENTS → All (Admits ty) es → IfSome (fold_of lifted combined es) (λ c. fits c (length es))
  fits-fold_of es few all =
      let long = weight-ones es in
      subst (λ n. IfSome (fold_of lifted combined es) (λ c. fits c n)) long (weighed.fits-fold_of laws lifted one es (omega arith) (each_fits es all))

  -- a value in front of a fold may be combined with its first value instead
  pub combined-fold : (a : C) (m : ℕ) (b : C) (n : ℕ) (es : List (List ℤ)) → m + n + length es ≤ MAX_ELEMENTS → fits a m → fits b n → All (Admits ty) es
      → combined a (fold (step lifted combined) b es) ≡ fold (step lifted combined) (combined a b) es
  combined-fold a m b n es few fa fb all = let long = weight-ones es in weighed.combined-fold laws lifted one a m b n es (omega arith) fa fb (each_fits es all)

  -- a list may be cut anywhere
  pub fold_of-append : (xs ys : List (List ℤ)) → length xs + length ys ≤ MAX_ELEMENTS → All (Admits ty) (xs ++ ys)
      → fold_of lifted combined (xs ++ ys) ≡ beside combined (fold_of lifted combined xs) (fold_of lifted combined ys)
  fold_of-append xs ys few all =
      let front = weight-ones xs in let back = weight-ones ys in
      weighed.fold_of-append laws lifted one xs ys (omega arith) (each_fits (xs ++ ys) all)

  -- the elements of places, after some elements: those of a place may be none
  pub fold_of-places : {P : Type 0} (at : P → List (List ℤ)) (front : List (List ℤ)) (ps : List P) → length front + length (flat_map at ps) ≤ MAX_ELEMENTS → All (Admits ty) (front ++ flat_map at ps)
      → fold_of lifted combined (front ++ flat_map at ps) ≡ fold (λ held p. beside combined held (fold_of lifted combined (at p))) (fold_of lifted combined front) ps
  fold_of-places at front ps few all =
      let before = weight-ones front in let behind = weight-ones (flat_map at ps) in
      weighed.fold_of-places laws lifted one at front ps (omega arith) (each_fits (front ++ flat_map at ps) all)

  -- the blocks of a list, of which some may be empty
  pub fold_of-blocks : (bs : List (List (List ℤ))) → length (flat_map (λ b. b) bs) ≤ MAX_ELEMENTS → All (Admits ty) (flat_map (λ b. b) bs)
      → fold_of lifted combined (flat_map (λ b. b) bs) ≡ fold (λ held b. beside combined held (fold_of lifted combined b)) None bs
  fold_of-blocks bs few all = fold_of-places (λ b. b) [] bs (omega arith) all

  -- a prefix, and what follows it up to a later place
  pub fold_of-prefix : (es : List (List ℤ)) (i n : ℕ) → length es ≤ MAX_ELEMENTS → All (Admits ty) es
      → fold_of lifted combined (take (i + n) es) ≡ beside combined (fold_of lifted combined (take i es)) (fold_of lifted combined (take n (drop i es)))
  fold_of-prefix es i n few all =
      let cut = take-add i n es in
      let part = rw cut at (All-take (Admits ty) (i + n) es all) in
      let short : length (take i es) + length (take n (drop i es)) ≤ MAX_ELEMENTS =
      omega (arith, ap length cut, length-append (take i es) (take n (drop i es)), length-take (i + n) es) in
      ap (fold_of lifted combined) cut ∙ fold_of-append (take i es) (take n (drop i es)) short part

  -- one element in front
  pub fold_of-front : (e : List ℤ) (es : List (List ℤ)) → suc (length es) ≤ MAX_ELEMENTS → All (Admits ty) (e ∷ es)
      → fold_of lifted combined (e ∷ es) ≡ Some (with_front combined (lifted e) (fold_of lifted combined es))
  fold_of-front e [] few all = refl
  fold_of-front e (d ∷ es) few all = fold_of-append (e ∷ []) (d ∷ es) (omega arith) all

  -- the suffix that is longer by one
  pub fold_of-suffix : (es : List (List ℤ)) (i : ℕ) → i < length es → length es ≤ MAX_ELEMENTS → All (Admits ty) es
      → fold_of lifted combined (drop i es) ≡ Some (with_front combined (lifted (get_or es i [])) (fold_of lifted combined (drop (i + 1) es)))
  fold_of-suffix es i within few all =
      let cut = drop-cons es i [] within in
      let part = rw cut at (All-drop (Admits ty) i es all) in
      let short : suc (length (drop (suc i) es)) ≤ MAX_ELEMENTS = omega (arith, length-drop (suc i) es) in
      ap (fold_of lifted combined) cut ∙ rw add-one (fold_of-front (get_or es i []) (drop (suc i) es) short part)

-- with the laws of the unit too
module _ {C : Type 0} {takes : List Width → Type 0} {gives : List Width → List Width} {lifted : List ℤ → C} {finished : C → List ℤ} {fits : C → ℕ → Type 0} {combined : C → C → C} {nothing : C}
    (lifts : LiftLaws takes gives lifted finished fits) (laws : CombineLaws combined fits) (unit : UnitLaws nothing combined fits) (ty : List Width) (taken : takes ty) where
  -- the fold of a list fits its length
  pub fits-fold_or : (es : List (List ℤ)) → length es ≤ MAX_ELEMENTS → All (Admits ty) es → fits (fold_or nothing lifted combined es) (length es)
  fits-fold_or [] few all = unit.nothing_fits
  fits-fold_or (e ∷ es) few all = fits-fold_of lifts laws ty taken (e ∷ es) few all

  -- a list may be cut anywhere
  pub fold_or-append : (xs ys : List (List ℤ)) → length xs + length ys ≤ MAX_ELEMENTS → All (Admits ty) (xs ++ ys)
      → fold_or nothing lifted combined (xs ++ ys) ≡ combined (fold_or nothing lifted combined xs) (fold_or nothing lifted combined ys)
  fold_or-append [] ys few all = sym (unit.left _ (length ys) (omega arith) (fits-fold_or ys (omega arith) all))
  fold_or-append (x ∷ xs) [] few all =
      let whole = All-front (Admits ty) (x ∷ xs) [] all in
      ap (fold_or nothing lifted combined) (append-nil (x ∷ xs))
      ∙ sym (unit.right _ (suc (length xs)) (omega arith) (fits-fold_or (x ∷ xs) (omega arith) whole))
  fold_or-append (x ∷ xs) (y ∷ ys) few all = ap (λ held. unwrap_or held nothing) (fold_of-append lifts laws ty taken (x ∷ xs) (y ∷ ys) few all)

  -- the prefix that is longer by one
  pub fold_or-more : (es : List (List ℤ)) (i : ℕ) → i < length es → length es ≤ MAX_ELEMENTS → All (Admits ty) es
      → fold_or nothing lifted combined (take (i + 1) es) ≡ combined (fold_or nothing lifted combined (take i es)) (lifted (get_or es i []))
  fold_or-more es i within few all =
      let cut = take_more es i [] within in
      let part = rw cut at (All-take (Admits ty) (i + 1) es all) in
      let short : length (take i es) + 1 ≤ MAX_ELEMENTS = omega (arith, length-take i es) in
      ap (fold_or nothing lifted combined) cut ∙ fold_or-append (take i es) (get_or es i [] ∷ []) short part
