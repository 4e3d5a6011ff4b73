-- Folds of lists that are cut, where each value folded has a weight. The folds of elements are the case of weight 1 (`FoldLemmas`).
use Rattle.std.proofs.Common.{◌≡◌, ℕ, ◌+◌, ◌≤◌, List, [], ◌∷◌, ◌++◌, length, Some, take, drop, refl, ap, arith, add-zero, sym, ◌∙◌, IfSome}
use Rattle.std.specs.List.{fold, flat_map, All}
use Rattle.std.proofs.Math.Seq.{take-add}
use Rattle.std.proofs.lemmas.List.{append-nil, append_assoc}
use Rattle.std.proofs.lemmas.List.Sums.{fold-append}
use Rattle.std.proofs.lemmas.List.Elements.{All-head, All-tail, All-cons, All-nil, All-take}
use Rattle.op_laws.specs.declared.TheConstants.{MAX_ELEMENTS}
use Rattle.op_laws.specs.Laws.{CombineLaws}
use Rattle.op_laws.specs.Folds.{step, fold_of, beside, with_front, weight_of}

-- what holds of each element holds of each in front of a cut
pub All-front : {X : Type 0} (P : X → Type 0) (xs ys : List X) → All P (xs ++ ys) → All P xs
All-front P [] ys all = All-nil P
All-front P (x ∷ xs) ys all = All-cons P x xs (All-head P x (xs ++ ys) all) (All-front P xs ys (All-tail P x (xs ++ ys) all))

-- and of each behind it
pub All-back : {X : Type 0} (P : X → Type 0) (xs ys : List X) → All P (xs ++ ys) → All P ys
All-back P [] ys all = all
All-back P (x ∷ xs) ys all = All-back P xs ys (All-tail P x (xs ++ ys) all)

module _ {A : Type 0} (weight : A → ℕ) where
  pub weight-append : (xs ys : List A) → weight_of weight (xs ++ ys) ≡ weight_of weight xs + weight_of weight ys
  weight-append [] ys = omega arith
  weight-append (x ∷ xs) ys = let rest = weight-append xs ys in omega arith

-- an element stands for itself
abbrev pub one : {A : Type 0} → A → ℕ
one a = 1

pub weight-ones : {A : Type 0} (xs : List A) → weight_of one xs ≡ length xs
weight-ones [] = refl
weight-ones (x ∷ xs) = let rest = weight-ones xs in omega arith

module _ {A C : Type 0} {fits : C → ℕ → Type 0} {combined : C → C → C} (laws : CombineLaws combined fits) (lifted : A → C) (weight : A → ℕ) where
  -- a value stands for as many elements as its weight says
  abbrev pub Fits : A → Type 0
  Fits a = fits (lifted a) (weight a)

  pub fits-fold : (c : C) (n : ℕ) (xs : List A) → n + weight_of weight xs ≤ MAX_ELEMENTS → fits c n → All Fits xs → fits (fold (step lifted combined) c xs) (n + weight_of weight xs)
  fits-fold c n [] few fit all = rw add-zero fit
  fits-fold c n (x ∷ xs) few fit all =
      let more = laws.combined_fits c n (lifted x) (weight x) (omega arith) fit (All-head Fits x xs all) in
      let total : (n + weight x) + weight_of weight xs ≡ n + (weight x + weight_of weight xs) = omega arith in
      rw (← total) (fits-fold (combined c (lifted x)) (n + weight x) xs (omega arith) more (All-tail Fits x xs all))

  -- the fold of a list fits its weight
  pub fits-fold_of : (xs : List A) → weight_of weight xs ≤ MAX_ELEMENTS → All Fits xs → IfSome (fold_of lifted combined xs) (λ c. fits c (weight_of weight xs))
  fits-fold_of [] few all = tt
  fits-fold_of (x ∷ xs) few all = fits-fold (lifted x) (weight x) xs few (All-head Fits x xs all) (All-tail Fits x xs all)

  -- a value in front of a fold may be combined with its first value instead
  pub combined-fold : (a : C) (m : ℕ) (b : C) (n : ℕ) (xs : List A) → m + n + weight_of weight xs ≤ MAX_ELEMENTS → fits a m → fits b n → All Fits xs
      → combined a (fold (step lifted combined) b xs) ≡ fold (step lifted combined) (combined a b) xs
  combined-fold a m b n [] few fa fb all = refl
  combined-fold a m b n (x ∷ xs) few fa fb all =
      let one = All-head Fits x xs all in
      let more = laws.combined_fits b n (lifted x) (weight x) (omega arith) fb one in
      combined-fold a m (combined b (lifted x)) (n + weight x) xs (omega arith) fa more (All-tail Fits x xs all)
      ∙ ap (λ c. fold (step lifted combined) c xs) (sym (laws.associative a m b n (lifted x) (weight x) (omega arith) fa fb one))

  -- a list may be cut anywhere
  pub fold_of-append : (xs ys : List A) → weight_of weight xs + weight_of weight ys ≤ MAX_ELEMENTS → All Fits (xs ++ ys)
      → fold_of lifted combined (xs ++ ys) ≡ beside combined (fold_of lifted combined xs) (fold_of lifted combined ys)
  fold_of-append [] ys few all = refl
  fold_of-append (x ∷ xs) [] few all = ap (fold_of lifted combined) (append-nil (x ∷ xs))
  fold_of-append (x ∷ xs) (y ∷ ys) few all =
      let front = All-front Fits (x ∷ xs) (y ∷ ys) all in
      let back = All-back Fits (x ∷ xs) (y ∷ ys) all in
      let whole = fits-fold (lifted x) (weight x) xs (omega arith) (All-head Fits x xs front) (All-tail Fits x xs front) in
      ap Some (fold-append (step lifted combined) (lifted x) xs (y ∷ ys)
      ∙ sym (combined-fold (fold (step lifted combined) (lifted x) xs) (weight x + weight_of weight xs) (lifted y) (weight y) ys (omega arith) whole (All-head Fits y ys back) (All-tail Fits y ys back)))

  -- the values of places, after some values: those of a place may be none
  pub fold_of-places : {P : Type 0} (at : P → List A) (front : List A) (ps : List P) → weight_of weight front + weight_of weight (flat_map at ps) ≤ MAX_ELEMENTS → All Fits (front ++ flat_map at ps)
      → fold_of lifted combined (front ++ flat_map at ps) ≡ fold (λ held p. beside combined held (fold_of lifted combined (at p))) (fold_of lifted combined front) ps
  fold_of-places at front [] few all = ap (fold_of lifted combined) (append-nil front)
  fold_of-places {P} at front (p ∷ ps) few all =
      let regroup : (front ++ at p) ++ flat_map at ps ≡ front ++ (at p ++ flat_map at ps) = append_assoc front (at p) (flat_map at ps) in
      let whole = rw (← regroup) at all in
      let longer = weight-append weight front (at p) in
      let rest = weight-append weight (at p) (flat_map at ps) in
      let cut = fold_of-append front (at p) (omega arith) (All-front Fits (front ++ at p) (flat_map at ps) whole) in
      ap (fold_of lifted combined) (sym regroup)
      ∙ fold_of-places at (front ++ at p) ps (omega arith) whole
      ∙ ap (λ held. fold (λ held p. beside combined held (fold_of lifted combined (at p))) held ps) cut

  -- a prefix, and what follows it up to a later place
  pub fold_of-prefix : (xs : List A) (i n : ℕ) → weight_of weight (take (i + n) xs) ≤ MAX_ELEMENTS → All Fits xs
      → fold_of lifted combined (take (i + n) xs) ≡ beside combined (fold_of lifted combined (take i xs)) (fold_of lifted combined (take n (drop i xs)))
  fold_of-prefix xs i n few all =
      let cut = take-add i n xs in
      let part = rw cut at (All-take Fits (i + n) xs all) in
      let short : weight_of weight (take i xs) + weight_of weight (take n (drop i xs)) ≤ MAX_ELEMENTS = omega (arith, ap (weight_of weight) cut, weight-append weight (take i xs) (take n (drop i xs))) in
      ap (fold_of lifted combined) cut ∙ fold_of-append (take i xs) (take n (drop i xs)) short part

  -- one value in front
  pub fold_of-front : (x : A) (xs : List A) → weight x + weight_of weight xs ≤ MAX_ELEMENTS → All Fits (x ∷ xs)
      → fold_of lifted combined (x ∷ xs) ≡ Some (with_front combined (lifted x) (fold_of lifted combined xs))
  fold_of-front x [] few all = refl
  fold_of-front x (y ∷ ys) few all = fold_of-append (x ∷ []) (y ∷ ys) (omega arith) all
