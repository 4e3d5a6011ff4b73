-- Folds and scans of a block with one place more.
use Rattle.std.proofs.Common.{◌≡◌, ℕ, suc, ◌+◌, ◌≤◌, ℤ, List, [], ◌∷◌, ◌++◌, Bool, Option, Some, None, map, reverse, length, refl, ap, sym, ◌∙◌, arith, subst, IfSome, is_some, true, false}
use Rattle.std.specs.List.{All, fold}
use Rattle.std.specs.Option.{option_to_list}
use Rattle.std.proofs.lemmas.List.{length-map, map-append, append-nil, append_assoc, length-append, reverse-append}
use Rattle.std.proofs.lemmas.List.Elements.{All-cons, All-nil, All-append, All-head, All-tail}
use Rattle.std.proofs.lemmas.List.Sums.{fold-append}
use Rattle.op_laws.specs.declared.TheConstants.{MAX_ELEMENTS}
use Rattle.op_laws.specs.declared.width.Width.{Width}
use Rattle.op_laws.specs.Admits.{Admits}
use Rattle.op_laws.specs.Laws.{LiftLaws, CombineLaws}
use Rattle.op_laws.specs.Folds.{step, fold_of, beside, with_next, with_front}
use Rattle.op_laws.proofs.FoldLemmas.{fold_of-push, fold_of-front, fits-fold_of}
use Rattle.op_laws.specs.Lists.{prefixes, suffixes}
use Rattle.list_fusion.specs.Scans.{result_of, scan_after, scanr_before}
use Rattle.list_fusion.specs.Held.{held_after, held_in_front, told_of, held_after_all, held_through, scanned}

module _ {X : Type 0} where
  -- the prefixes of a list with one element more
  pub length-prefixes : (xs : List X) → length (prefixes xs) ≡ length xs
  length-prefixes [] = refl
  length-prefixes (x ∷ xs) = ap suc (length-map (prefixes xs) (λ front. x ∷ front) ∙ length-prefixes xs)

  pub length-suffixes : (xs : List X) → length (suffixes xs) ≡ length xs
  length-suffixes [] = refl
  length-suffixes (x ∷ xs) = ap suc (length-suffixes xs)

  pub prefixes-push : (xs : List X) (x : X) → prefixes (xs ++ x ∷ []) ≡ prefixes xs ++ (xs ++ x ∷ []) ∷ []
  prefixes-push [] x = refl
  prefixes-push (y ∷ xs) x =
      ap (λ fronts. (y ∷ []) ∷ map (λ front. y ∷ front) fronts) (prefixes-push xs x)
      ∙ ap (λ fronts. (y ∷ []) ∷ fronts) (map-append (λ front. y ∷ front) (prefixes xs) ((xs ++ x ∷ []) ∷ []))

module _ {C : Type 0} (lifted : List ℤ → C) (combined : C → C → C) where
  -- with no law
  pub fold_of-option : (es : List (List ℤ)) (o : Option (List ℤ)) → fold_of lifted combined (es ++ option_to_list o) ≡ held_after lifted combined (fold_of lifted combined es) o
  fold_of-option es None = ap (fold_of lifted combined) (append-nil es)
  fold_of-option es (Some e) = fold_of-push lifted combined es e

module _ {C : Type 0} (finished : C → List ℤ) (lifted : List ℤ → C) (combined : C → C → C) where
  -- a scan is as long as what is scanned
  pub length-scan_after : (before : Option C) (es : List (List ℤ)) → length (scan_after finished lifted combined before es) ≡ length es
  length-scan_after before es = length-map (prefixes es) (λ front. result_of finished (beside combined before (fold_of lifted combined front))) ∙ length-prefixes es

  pub length-scanr_before : (behind : Option C) (es : List (List ℤ)) → length (scanr_before finished lifted combined behind es) ≡ length es
  length-scanr_before behind es = length-map (suffixes es) (λ rest. result_of finished (beside combined (fold_of lifted combined rest) behind)) ∙ length-suffixes es

-- nothing beside a fold
pub beside-none : {C : Type 0} (combined : C → C → C) (o : Option C) → beside combined o None ≡ o
beside-none combined None = refl
beside-none combined (Some c) = refl

module _ {C : Type 0} {takes : List Width → Type 0} {gives : List Width → List Width} {lifted : List ℤ → C} {finished : C → List ℤ} {fits : C → ℕ → Type 0} {combined : C → C → C}
    (lifts : LiftLaws takes gives lifted finished fits) (laws : CombineLaws combined fits) (ty : List Width) (taken : takes ty) where
  -- one element more, after what stands before
  beside-push : (before : Option C) (nb : ℕ) (es : List (List ℤ)) (e : List ℤ) → nb + (length es + 1) ≤ MAX_ELEMENTS → IfSome before (λ c. fits c nb) → All (Admits ty) es → Admits ty e
      → beside combined before (fold_of lifted combined (es ++ e ∷ [])) ≡ Some (with_next combined (beside combined before (fold_of lifted combined es)) (lifted e))
  beside-push None nb es e few fit all one = fold_of-push lifted combined es e
  beside-push (Some a) nb [] e few fit all one = refl
  beside-push (Some a) nb (d ∷ es) e few fit all one =
      let whole = fits-fold_of lifts laws ty taken (d ∷ es) (omega arith) all in
      let last = lifts.lifted_fits ty e taken one in
      ap (beside combined (Some a)) (fold_of-push lifted combined (d ∷ es) e)
      ∙ ap Some (sym (laws.associative a nb (fold (step lifted combined) (lifted d) es) (length (d ∷ es)) (lifted e) 1 (omega arith) fit whole last))

  -- one element more, in front of what stands behind
  beside-front : (behind : Option C) (nb : ℕ) (e : List ℤ) (es : List (List ℤ)) → nb + (length es + 1) ≤ MAX_ELEMENTS → IfSome behind (λ c. fits c nb) → All (Admits ty) es → Admits ty e
      → beside combined (fold_of lifted combined (e ∷ es)) behind ≡ Some (with_front combined (lifted e) (beside combined (fold_of lifted combined es) behind))
  beside-front None nb e [] few fit all one = refl
  beside-front (Some b) nb e [] few fit all one = refl
  beside-front None nb e (d ∷ es) few fit all one =
      ap (λ o. beside combined o None) (fold_of-front lifts laws ty taken e (d ∷ es) (omega arith) (All-cons (Admits ty) e (d ∷ es) one all))
  beside-front (Some b) nb e (d ∷ es) few fit all one =
      let whole = fits-fold_of lifts laws ty taken (d ∷ es) (omega arith) all in
      let first = lifts.lifted_fits ty e taken one in
      ap (λ o. beside combined o (Some b)) (fold_of-front lifts laws ty taken e (d ∷ es) (omega arith) (All-cons (Admits ty) e (d ∷ es) one all))
      ∙ ap Some (laws.associative (lifted e) 1 (fold (step lifted combined) (lifted d) es) (length (d ∷ es)) b nb (omega arith) first whole fit)

  -- one place more, which may have kept no element
  pub held-more : (before : Option C) (nb : ℕ) (es : List (List ℤ)) (o : Option (List ℤ)) → nb + (length es + 1) ≤ MAX_ELEMENTS → IfSome before (λ c. fits c nb) → All (Admits ty) es → IfSome o (Admits ty)
      → held_after lifted combined (beside combined before (fold_of lifted combined es)) o ≡ beside combined before (fold_of lifted combined (es ++ option_to_list o))
  held-more before nb es None few fit all one = ap (λ xs. beside combined before (fold_of lifted combined xs)) (sym (append-nil es))
  held-more before nb es (Some e) few fit all one = sym (beside-push before nb es e few fit all one)

  pub held-front : (behind : Option C) (nb : ℕ) (o : Option (List ℤ)) (es : List (List ℤ)) → nb + (length es + 1) ≤ MAX_ELEMENTS → IfSome behind (λ c. fits c nb) → All (Admits ty) es → IfSome o (Admits ty)
      → held_in_front lifted combined o (beside combined (fold_of lifted combined es) behind) ≡ beside combined (fold_of lifted combined (option_to_list o ++ es)) behind
  held-front behind nb None es few fit all one = refl
  held-front behind nb (Some e) es few fit all one = sym (beside-front behind nb e es few fit all one)

  told_last : (held : Option C) (c : C) → held ≡ Some c → option_to_list (told_of finished true held) ≡ result_of finished held ∷ []
  told_last held c is = subst (λ h. option_to_list (told_of finished true h) ≡ result_of finished h ∷ []) (sym is) refl

  -- the scan of a block with one place more
  pub scan-more : (before : Option C) (nb : ℕ) (es : List (List ℤ)) (o : Option (List ℤ)) → nb + (length es + 1) ≤ MAX_ELEMENTS → IfSome before (λ c. fits c nb) → All (Admits ty) es → IfSome o (Admits ty)
      → scan_after finished lifted combined before es ++ option_to_list (told_of finished (is_some o) (beside combined before (fold_of lifted combined (es ++ option_to_list o))))
      ≡ scan_after finished lifted combined before (es ++ option_to_list o)
  scan-more before nb es None few fit all one =
      append-nil (scan_after finished lifted combined before es) ∙ ap (scan_after finished lifted combined before) (sym (append-nil es))
  scan-more before nb es (Some e) few fit all one =
      let f : List (List ℤ) → List ℤ = λ front. result_of finished (beside combined before (fold_of lifted combined front)) in
      ap (λ last. scan_after finished lifted combined before es ++ last) (told_last _ _ (beside-push before nb es e few fit all one))
      ∙ sym (ap (map f) (prefixes-push es e) ∙ map-append f (prefixes es) ((es ++ e ∷ []) ∷ []))

  -- the scan from behind, of a block with one place more in front
  pub scanr-front : (behind : Option C) (nb : ℕ) (o : Option (List ℤ)) (es : List (List ℤ)) → nb + (length es + 1) ≤ MAX_ELEMENTS → IfSome behind (λ c. fits c nb) → All (Admits ty) es → IfSome o (Admits ty)
      → reverse (scanr_before finished lifted combined behind es) ++ option_to_list (told_of finished (is_some o) (beside combined (fold_of lifted combined (option_to_list o ++ es)) behind))
      ≡ reverse (scanr_before finished lifted combined behind (option_to_list o ++ es))
  scanr-front behind nb None es few fit all one = append-nil (reverse (scanr_before finished lifted combined behind es))
  scanr-front behind nb (Some e) es few fit all one =
      let held = beside combined (fold_of lifted combined (e ∷ es)) behind in
      ap (λ last. reverse (scanr_before finished lifted combined behind es) ++ last) (told_last held _ (beside-front behind nb e es few fit all one))
      ∙ sym (reverse-append (result_of finished held ∷ []) (scanr_before finished lifted combined behind es))

  -- one turn of a scan: what is held, and the list so far
  pub scan-turn : (before : Option C) (nb : ℕ) (es : List (List ℤ)) (o : Option (List ℤ)) → nb + (length es + 1) ≤ MAX_ELEMENTS → IfSome before (λ c. fits c nb) → All (Admits ty) es → IfSome o (Admits ty)
      → (e t : Option (List ℤ)) (kept : Bool) (held next : Option C) (list longer : List (List ℤ)) → e ≡ o → kept ≡ is_some e
      → held ≡ beside combined before (fold_of lifted combined es) → next ≡ held_after lifted combined held e → t ≡ told_of finished kept next
      → list ≡ scan_after finished lifted combined before es → longer ≡ list ++ option_to_list t
      → (next ≡ beside combined before (fold_of lifted combined (es ++ option_to_list o))) × (longer ≡ scan_after finished lifted combined before (es ++ option_to_list o))
  scan-turn before nb es o few fit all one e t kept held next list longer e_is kept_is held_is next_is t_is list_is longer_is =
      let turned = held-more before nb es o few fit all one in
      let told = scan-more before nb es o few fit all one in
      let now : next ≡ beside combined before (fold_of lifted combined (es ++ option_to_list o)) = cc in
      (now, cc)

  pub scanr-turn : (behind : Option C) (nb : ℕ) (es : List (List ℤ)) (o : Option (List ℤ)) → nb + (length es + 1) ≤ MAX_ELEMENTS → IfSome behind (λ c. fits c nb) → All (Admits ty) es → IfSome o (Admits ty)
      → (e t : Option (List ℤ)) (kept : Bool) (held next : Option C) (list longer : List (List ℤ)) → e ≡ o → kept ≡ is_some e
      → held ≡ beside combined (fold_of lifted combined es) behind → next ≡ held_in_front lifted combined e held → t ≡ told_of finished kept next
      → list ≡ reverse (scanr_before finished lifted combined behind es) → longer ≡ list ++ option_to_list t
      → (next ≡ beside combined (fold_of lifted combined (option_to_list o ++ es)) behind) × (longer ≡ reverse (scanr_before finished lifted combined behind (option_to_list o ++ es)))
  scanr-turn behind nb es o few fit all one e t kept held next list longer e_is kept_is held_is next_is t_is list_is longer_is =
      let turned = held-front behind nb o es few fit all one in
      let told = scanr-front behind nb o es few fit all one in
      let now : next ≡ beside combined (fold_of lifted combined (option_to_list o ++ es)) behind = cc in
      (now, cc)

  -- what is held goes on from one part of a list to the next
  pub held-on : (before : Option C) (nb : ℕ) (es ds : List (List ℤ)) → nb + (length es + length ds) ≤ MAX_ELEMENTS → IfSome before (λ c. fits c nb) → All (Admits ty) es → All (Admits ty) ds
      → held_through lifted combined false (beside combined before (fold_of lifted combined es)) ds ≡ beside combined before (fold_of lifted combined (es ++ ds))
  held-on before nb es [] few fit all more = ap (λ xs. beside combined before (fold_of lifted combined xs)) (sym (append-nil es))
  held-on before nb es (d ∷ ds) few fit all more =
      let one = All-head (Admits ty) d ds more in
      let longer = All-append (Admits ty) es (d ∷ []) all (All-cons (Admits ty) d [] one (All-nil (Admits ty))) in
      let count = length-append es (d ∷ []) in
      ap (λ h. held_through lifted combined false h ds) (sym (beside-push before nb es d (omega arith) fit all one))
      ∙ held-on before nb (es ++ d ∷ []) ds (omega (arith, count)) fit longer (All-tail (Admits ty) d ds more)
      ∙ ap (λ xs. beside combined before (fold_of lifted combined xs)) (append_assoc es (d ∷ []) ds)

  -- and so does a scan
  pub scan-on : (before : Option C) (nb : ℕ) (es ds : List (List ℤ)) → nb + (length es + length ds) ≤ MAX_ELEMENTS → IfSome before (λ c. fits c nb) → All (Admits ty) es → All (Admits ty) ds
      → scan_after finished lifted combined before es ++ scanned lifted combined finished false (beside combined before (fold_of lifted combined es)) ds ≡ scan_after finished lifted combined before (es ++ ds)
  scan-on before nb es [] few fit all more = append-nil (scan_after finished lifted combined before es) ∙ ap (scan_after finished lifted combined before) (sym (append-nil es))
  scan-on before nb es (d ∷ ds) few fit all more =
      let one = All-head (Admits ty) d ds more in
      let longer = All-append (Admits ty) es (d ∷ []) all (All-cons (Admits ty) d [] one (All-nil (Admits ty))) in
      let count = length-append es (d ∷ []) in
      let held = beside combined before (fold_of lifted combined es) in
      let next = with_next combined held (lifted d) in
      let pushed : beside combined before (fold_of lifted combined (es ++ d ∷ [])) ≡ Some next = beside-push before nb es d (omega arith) fit all one in
      let rest = scanned lifted combined finished false (Some next) ds in
      let told : scan_after finished lifted combined before es ++ finished next ∷ [] ≡ scan_after finished lifted combined before (es ++ d ∷ []) =
      ap (λ h. scan_after finished lifted combined before es ++ option_to_list (told_of finished true h)) (sym pushed) ∙ scan-more before nb es (Some d) (omega arith) fit all one in
      sym (append_assoc (scan_after finished lifted combined before es) (finished next ∷ []) rest)
      ∙ ap (λ xs. xs ++ rest) told
      ∙ ap (λ h. scan_after finished lifted combined before (es ++ d ∷ []) ++ scanned lifted combined finished false h ds) (sym pushed)
      ∙ scan-on before nb (es ++ d ∷ []) ds (omega (arith, count)) fit longer (All-tail (Admits ty) d ds more)
      ∙ ap (scan_after finished lifted combined before) (append_assoc es (d ∷ []) ds)

  pub scan-first : (before : Option C) (nb : ℕ) (es : List (List ℤ)) → nb + length es ≤ MAX_ELEMENTS → IfSome before (λ c. fits c nb) → All (Admits ty) es
      → scanned lifted combined finished false before es ≡ scan_after finished lifted combined before es
  scan-first before nb es few fit all =
      ap (λ h. scanned lifted combined finished false h es) (sym (beside-none combined before)) ∙ scan-on before nb [] es (omega arith) fit (All-nil (Admits ty)) all

  -- from behind, the elements in front come one after another
  regroup : (r : List ℤ) (rs es : List (List ℤ)) → reverse rs ++ r ∷ es ≡ reverse (r ∷ rs) ++ es
  regroup r rs es = sym (append_assoc (reverse rs) (r ∷ []) es) ∙ ap (λ xs. xs ++ es) (sym (reverse-append (r ∷ []) rs))

  pub held-back : (behind : Option C) (nb : ℕ) (es rs : List (List ℤ)) → nb + (length es + length rs) ≤ MAX_ELEMENTS → IfSome behind (λ c. fits c nb) → All (Admits ty) es → All (Admits ty) rs
      → held_through lifted combined true (beside combined (fold_of lifted combined es) behind) rs ≡ beside combined (fold_of lifted combined (reverse rs ++ es)) behind
  held-back behind nb es [] few fit all more = refl
  held-back behind nb es (r ∷ rs) few fit all more =
      let one = All-head (Admits ty) r rs more in
      ap (λ h. held_through lifted combined true h rs) (sym (beside-front behind nb r es (omega arith) fit all one))
      ∙ held-back behind nb (r ∷ es) rs (omega arith) fit (All-cons (Admits ty) r es one all) (All-tail (Admits ty) r rs more)
      ∙ ap (λ xs. beside combined (fold_of lifted combined xs) behind) (regroup r rs es)

  pub scan-back : (behind : Option C) (nb : ℕ) (es rs : List (List ℤ)) → nb + (length es + length rs) ≤ MAX_ELEMENTS → IfSome behind (λ c. fits c nb) → All (Admits ty) es → All (Admits ty) rs
      → reverse (scanr_before finished lifted combined behind es) ++ scanned lifted combined finished true (beside combined (fold_of lifted combined es) behind) rs
      ≡ reverse (scanr_before finished lifted combined behind (reverse rs ++ es))
  scan-back behind nb es [] few fit all more = append-nil (reverse (scanr_before finished lifted combined behind es))
  scan-back behind nb es (r ∷ rs) few fit all more =
      let one = All-head (Admits ty) r rs more in
      let front = reverse (scanr_before finished lifted combined behind es) in
      let next = with_front combined (lifted r) (beside combined (fold_of lifted combined es) behind) in
      let pushed : beside combined (fold_of lifted combined (r ∷ es)) behind ≡ Some next = beside-front behind nb r es (omega arith) fit all one in
      let rest = scanned lifted combined finished true (Some next) rs in
      let told : front ++ finished next ∷ [] ≡ reverse (scanr_before finished lifted combined behind (r ∷ es)) =
      ap (λ h. front ++ option_to_list (told_of finished true h)) (sym pushed) ∙ scanr-front behind nb (Some r) es (omega arith) fit all one in
      sym (append_assoc front (finished next ∷ []) rest)
      ∙ ap (λ xs. xs ++ rest) told
      ∙ ap (λ h. reverse (scanr_before finished lifted combined behind (r ∷ es)) ++ scanned lifted combined finished true h rs) (sym pushed)
      ∙ scan-back behind nb (r ∷ es) rs (omega arith) fit (All-cons (Admits ty) r es one all) (All-tail (Admits ty) r rs more)
      ∙ ap (λ xs. reverse (scanr_before finished lifted combined behind xs)) (regroup r rs es)

-- a fold goes on from what is held, with no law
pub fold_of-on : {C : Type 0} (lifted : List ℤ → C) (combined : C → C → C) (xs ys : List (List ℤ)) → fold_of lifted combined (xs ++ ys) ≡ held_after_all lifted combined (fold_of lifted combined xs) ys
fold_of-on lifted combined [] ys = refl
fold_of-on lifted combined (x ∷ xs) ys = ap Some (fold-append (step lifted combined) (lifted x) xs ys)

-- what is held fits more places
pub some-grows : {C : Type 0} {takes : List Width → Type 0} {gives : List Width → List Width} {lifted : List ℤ → C} {finished : C → List ℤ} {fits : C → ℕ → Type 0}
    → LiftLaws takes gives lifted finished fits → (o : Option C) (m n : ℕ) → m ≤ n → IfSome o (λ c. fits c m) → IfSome o (λ c. fits c n)
some-grows lifts None m n le h = tt
some-grows lifts (Some c) m n le h = lifts.grows c m n le h

pub All-reverse : {X : Type 0} (P : X → Type 0) (xs : List X) → All P xs → All P (reverse xs)
All-reverse P [] all = all
All-reverse P (x ∷ xs) all =
    subst (All P) (sym (reverse-append (x ∷ []) xs))
    (All-append P (reverse xs) (x ∷ []) (All-reverse P xs (All-tail P x xs all)) (All-cons P x [] (All-head P x xs all) (All-nil P)))
