-- Folds of a list from the folds of its parts, for elements of a type that the operator takes.
use Rattle.std.proofs.Common.{◌≡◌, ℕ, suc, ◌+◌, ◌<◌, ◌≤◌, ℤ, List, [], ◌∷◌, ◌++◌, Bool, true, false, Option, Some, None, Result, Ok, Err, IfOk, ◌*◌, ◌-◌, get_or, take, map, length, refl, ap, sym, ◌∙◌, arith, subst, IfSome}
use Rattle.std.specs.List.{All}
use Rattle.std.proofs.lemmas.Option.{IfSome_then}
use Rattle.std.proofs.lemmas.List.{append-nil, map-append, take_all, length-map}
use Rattle.std.proofs.lemmas.List.Elements.{All-append, All-head, All-tail, All-cons, All-nil}
use Rattle.op_laws.specs.declared.TheConstants.{MAX_ELEMENTS}
use Rattle.op_laws.specs.declared.width.Width.{Width}
use Rattle.op_laws.specs.Admits.{Admits}
use Rattle.op_laws.specs.Laws.{LiftLaws, CombineLaws}
use Rattle.op_laws.specs.Folds.{fold_of, beside}
use Rattle.op_laws.proofs.FoldLemmas.{fold_of-append, fits-fold_of}
use Rattle.op_laws.specs.Elements.{Elements}
use Rattle.list_fusion.specs.Pipes.{Flow, type_of, elements, block_of}
use Rattle.list_fusion.specs.Cuts.{BlocksFollow}
use Rattle.list_skel.specs.Blocks.{cut_at, piece, outer_places}
use Rattle.list_skel.specs.Given.{IsBlockFold, outer, all_items}
use Rattle.list_skel.specs.Skeletons.{fold_result, either_scan}
use Rattle.list_skel.proofs.CutLemmas.{block-none, cut-ordered, cut-within, cut-zero, cut-last, front-more, back-more, All-part, parts-front, parts-back}
use Rattle.op_laws.specs.Lists.{prefixes, suffixes}
use Rattle.list_fusion.specs.Scans.{result_of, scan_after, scanr_before, scan_beside}

pub length-prefixes : {X : Type 0} (xs : List X) → length (prefixes xs) ≡ length xs
length-prefixes [] = refl
length-prefixes (x ∷ xs) = ap suc (length-map (prefixes xs) (λ front. x ∷ front) ∙ length-prefixes xs)

pub length-suffixes : {X : Type 0} (xs : List X) → length (suffixes xs) ≡ length xs
length-suffixes [] = refl
length-suffixes (x ∷ xs) = ap suc (length-suffixes xs)

map-map : {X Y Z : Type 0} (f : X → Y) (g : Y → Z) (xs : List X) → map g (map f xs) ≡ map (λ x. g (f x)) xs
map-map f g [] = refl
map-map f g (x ∷ xs) = ap (λ ys. g (f x) ∷ ys) (map-map f g xs)

module _ {X : Type 0} where
  map_same : (fronts : List (List X)) → map (λ front. [] ++ front) fronts ≡ fronts
  map_same [] = refl
  map_same (f ∷ fronts) = ap (λ fs. f ∷ fs) (map_same fronts)

  -- the prefixes of a list that is cut
  pub prefixes-append : (xs ys : List X) → prefixes (xs ++ ys) ≡ prefixes xs ++ map (λ front. xs ++ front) (prefixes ys)
  prefixes-append [] ys = sym (map_same (prefixes ys))
  prefixes-append (x ∷ xs) ys =
      ap (λ fronts. (x ∷ []) ∷ map (λ front. x ∷ front) fronts) (prefixes-append xs ys)
      ∙ ap (λ fronts. (x ∷ []) ∷ fronts) (map-append (λ front. x ∷ front) (prefixes xs) (map (λ front. xs ++ front) (prefixes ys))
      ∙ ap (λ backs. map (λ front. x ∷ front) (prefixes xs) ++ backs) (map-map (λ front. xs ++ front) (λ front. x ∷ front) (prefixes ys)))

  -- the suffixes of a list that is cut
  pub suffixes-append : (xs ys : List X) → suffixes (xs ++ ys) ≡ map (λ rest. rest ++ ys) (suffixes xs) ++ suffixes ys
  suffixes-append [] ys = refl
  suffixes-append (x ∷ xs) ys = ap (λ rests. (x ∷ (xs ++ ys)) ∷ rests) (suffixes-append xs ys)

module _ {X Y : Type 0} (P : X → Type 0) where
  -- two functions that agree on lists of such elements, of which there are few enough, agree on each prefix
  pub prefixes-same : (f g : List X → Y) (n : ℕ) (xs : List X) → All P xs → length xs ≤ n → ((es : List X) → All P es → length es ≤ n → f es ≡ g es) → map f (prefixes xs) ≡ map g (prefixes xs)
  prefixes-same f g n [] all few same = refl
  prefixes-same f g n (x ∷ xs) all few same =
      let first = All-head P x xs all in
      let later = prefixes-same (λ front. f (x ∷ front)) (λ front. g (x ∷ front)) (length xs) xs (All-tail P x xs all) (omega arith) (λ es each short. same (x ∷ es) (All-cons P x es first each) (omega arith)) in
      ap (λ y. y ∷ map f (map (λ front. x ∷ front) (prefixes xs))) (same (x ∷ []) (All-cons P x [] first (All-nil P)) (omega arith))
      ∙ ap (λ ys. g (x ∷ []) ∷ ys) (map-map (λ front. x ∷ front) f (prefixes xs) ∙ later ∙ sym (map-map (λ front. x ∷ front) g (prefixes xs)))

  pub suffixes-same : (f g : List X → Y) (n : ℕ) (xs : List X) → All P xs → length xs ≤ n → ((es : List X) → All P es → length es ≤ n → f es ≡ g es) → map f (suffixes xs) ≡ map g (suffixes xs)
  suffixes-same f g n [] all few same = refl
  suffixes-same f g n (x ∷ xs) all few same =
      ap (λ y. y ∷ map f (suffixes xs)) (same (x ∷ xs) all few)
      ∙ ap (λ ys. g (x ∷ xs) ∷ ys) (suffixes-same f g n xs (All-tail P x xs all) (omega arith) same)

module _ {C : Type 0} {takes : List Width → Type 0} {gives : List Width → List Width} {lifted : List ℤ → C} {finished : C → List ℤ} {fits : C → ℕ → Type 0} {combined : C → C → C}
    (lifts : LiftLaws takes gives lifted finished fits) (laws : CombineLaws combined fits) (ty : List Width) (taken : takes ty) where
  -- the scan of a list that is cut
  pub scan-append : (xs ys : List (List ℤ)) → length xs + length ys ≤ MAX_ELEMENTS → All (Admits ty) xs → All (Admits ty) ys
      → map (λ es. result_of finished (fold_of lifted combined es)) (prefixes xs) ++ scan_after finished lifted combined (fold_of lifted combined xs) ys
      ≡ map (λ es. result_of finished (fold_of lifted combined es)) (prefixes (xs ++ ys))
  scan-append xs ys few first second =
      let f : List (List ℤ) → List ℤ = λ es. result_of finished (fold_of lifted combined es) in
      let g : List (List ℤ) → List ℤ = λ front. result_of finished (beside combined (fold_of lifted combined xs) (fold_of lifted combined front)) in
      let same = prefixes-same (Admits ty) g (λ front. f (xs ++ front)) (length ys) ys second (omega arith)
      (λ es each short. ap (result_of finished) (sym (fold_of-append lifts laws ty taken xs es (omega arith) (All-append (Admits ty) xs es first each)))) in
      ap (λ later. map f (prefixes xs) ++ later) (same ∙ sym (map-map (λ front. xs ++ front) f (prefixes ys)))
      ∙ sym (ap (map f) (prefixes-append xs ys) ∙ map-append f (prefixes xs) (map (λ front. xs ++ front) (prefixes ys)))

  -- the scan from behind of a list that is cut
  pub scanr-append : (xs ys : List (List ℤ)) → length xs + length ys ≤ MAX_ELEMENTS → All (Admits ty) xs → All (Admits ty) ys
      → scanr_before finished lifted combined (fold_of lifted combined ys) xs ++ map (λ es. result_of finished (fold_of lifted combined es)) (suffixes ys)
      ≡ map (λ es. result_of finished (fold_of lifted combined es)) (suffixes (xs ++ ys))
  scanr-append xs ys few first second =
      let f : List (List ℤ) → List ℤ = λ es. result_of finished (fold_of lifted combined es) in
      let g : List (List ℤ) → List ℤ = λ rest. result_of finished (beside combined (fold_of lifted combined rest) (fold_of lifted combined ys)) in
      let same = suffixes-same (Admits ty) g (λ rest. f (rest ++ ys)) (length xs) xs first (omega arith)
      (λ es each short. ap (result_of finished) (sym (fold_of-append lifts laws ty taken es ys (omega arith) (All-append (Admits ty) es ys each second)))) in
      ap (λ front. front ++ map f (suffixes ys)) (same ∙ sym (map-map (λ rest. rest ++ ys) f (suffixes xs)))
      ∙ sym (ap (map f) (suffixes-append xs ys) ∙ map-append f (map (λ rest. rest ++ ys) (suffixes xs)) (suffixes ys))

  -- the fold of what stands in front of a block, and the block's own
  module _ (p : Flow) (parts : BlocksFollow p) (len block : ℕ) (few : len ≤ MAX_ELEMENTS) (all : All (Admits ty) (block_of p 0 len)) where
    pub fold-more : (t : ℕ) → beside combined (fold_of lifted combined (block_of p 0 (cut_at len block t))) (fold_of lifted combined (piece p len block t)) ≡ fold_of lifted combined (block_of p 0 (cut_at len block (t + 1)))
    fold-more t =
        let front = block_of p 0 (cut_at len block t) in
        let own = piece p len block t in
        let joined = front-more p parts len block t in
        let within = All-part (Admits ty) p parts len block 0 (cut_at len block (t + 1)) (omega arith) (cut-within len block (t + 1)) all in
        let ordered = cut-ordered len block t in
        let last = cut-within len block (t + 1) in
        let short : length front + length own ≤ MAX_ELEMENTS = omega (arith, few, ordered, last, parts.short 0 (cut_at len block t), parts.short (cut_at len block t) (cut_at len block (t + 1))) in
        sym (fold_of-append lifts laws ty taken front own short (subst (All (Admits ty)) (sym joined) within)) ∙ ap (fold_of lifted combined) joined

    -- and of what stands behind it
    pub fold-back : (t : ℕ) → beside combined (fold_of lifted combined (piece p len block t)) (fold_of lifted combined (block_of p (cut_at len block (t + 1)) len)) ≡ fold_of lifted combined (block_of p (cut_at len block t) len)
    fold-back t =
        let own = piece p len block t in
        let behind = block_of p (cut_at len block (t + 1)) len in
        let joined = back-more p parts len block t in
        let within = All-part (Admits ty) p parts len block (cut_at len block t) len (cut-within len block t) (omega arith) all in
        let ordered = cut-ordered len block t in
        let last = cut-within len block (t + 1) in
        let short : length own + length behind ≤ MAX_ELEMENTS = omega (arith, few, ordered, last, parts.short (cut_at len block t) (cut_at len block (t + 1)), parts.short (cut_at len block (t + 1)) len) in
        sym (fold_of-append lifts laws ty taken own behind short (subst (All (Admits ty)) (sym joined) within)) ∙ ap (fold_of lifted combined) joined

    -- the scan of the blocks up to one, and the scan of that one
    pub scan-block : (t : ℕ) → map (λ es. result_of finished (fold_of lifted combined es)) (prefixes (block_of p 0 (cut_at len block t)))
        ++ scan_after finished lifted combined (fold_of lifted combined (block_of p 0 (cut_at len block t))) (piece p len block t)
        ≡ map (λ es. result_of finished (fold_of lifted combined es)) (prefixes (block_of p 0 (cut_at len block (t + 1))))
    scan-block t =
        let front = block_of p 0 (cut_at len block t) in
        let own = piece p len block t in
        let ordered = cut-ordered len block t in
        let last = cut-within len block (t + 1) in
        let short : length front + length own ≤ MAX_ELEMENTS = omega (arith, few, ordered, last, parts.short 0 (cut_at len block t), parts.short (cut_at len block t) (cut_at len block (t + 1))) in
        scan-append front own short
        (All-part (Admits ty) p parts len block 0 (cut_at len block t) (omega arith) (cut-within len block t) all)
        (All-part (Admits ty) p parts len block (cut_at len block t) (cut_at len block (t + 1)) ordered last all)
        ∙ ap (λ es. map (λ es. result_of finished (fold_of lifted combined es)) (prefixes es)) (front-more p parts len block t)

    pub scanr-block : (t : ℕ) → scanr_before finished lifted combined (fold_of lifted combined (block_of p (cut_at len block (t + 1)) len)) (piece p len block t)
        ++ map (λ es. result_of finished (fold_of lifted combined es)) (suffixes (block_of p (cut_at len block (t + 1)) len))
        ≡ map (λ es. result_of finished (fold_of lifted combined es)) (suffixes (block_of p (cut_at len block t) len))
    scanr-block t =
        let own = piece p len block t in
        let behind = block_of p (cut_at len block (t + 1)) len in
        let ordered = cut-ordered len block t in
        let last = cut-within len block (t + 1) in
        let short : length own + length behind ≤ MAX_ELEMENTS = omega (arith, few, ordered, last, parts.short (cut_at len block t) (cut_at len block (t + 1)), parts.short (cut_at len block (t + 1)) len) in
        scanr-append own behind short
        (All-part (Admits ty) p parts len block (cut_at len block t) (cut_at len block (t + 1)) ordered last all)
        (All-part (Admits ty) p parts len block (cut_at len block (t + 1)) len last (omega arith) all)
        ∙ ap (λ es. map (λ es. result_of finished (fold_of lifted combined es)) (suffixes es)) (back-more p parts len block t)

    -- the fold of what stands outside a block fits its places
    pub outer-fits : (back : Bool) (t : ℕ) → IfSome (fold_of lifted combined (outer back p len block t)) (λ c. fits c (outer_places back len block t))
    outer-fits true t =
        let es = block_of p (cut_at len block (t + 1)) len in
        let last = cut-within len block (t + 1) in
        let short = parts.short (cut_at len block (t + 1)) len in
        let part = All-part (Admits ty) p parts len block (cut_at len block (t + 1)) len last (omega arith) all in
        IfSome_then (fold_of lifted combined es) (fits-fold_of lifts laws ty taken es (omega arith) part) (λ c fit. lifts.grows c (length es) (len - cut_at len block (t + 1)) short fit)
    outer-fits false t =
        let es = block_of p 0 (cut_at len block t) in
        let last = cut-within len block t in
        let short : length es ≤ cut_at len block t = omega (arith, parts.short 0 (cut_at len block t)) in
        let part = All-part (Admits ty) p parts len block 0 (cut_at len block t) (omega arith) last all in
        IfSome_then (fold_of lifted combined es) (fits-fold_of lifts laws ty taken es (omega arith) part) (λ c fit. lifts.grows c (length es) (cut_at len block t) short fit)

    -- the scans of the blocks one after another are the scan of the whole
    pub all-scans : (back : Bool) (count : ℕ) (lists : List Elements) → len ≤ count * block → len ≡ length p.head.items → length lists ≡ count
        → ((t : ℕ) (d : Elements) → t < count → (get_or lists t d).items ≡ scan_beside finished lifted combined back (fold_of lifted combined (outer back p len block t)) (piece p len block t))
        → all_items lists ≡ either_scan finished lifted combined back (elements p)
    all-scans false count lists covers long many each =
        let f : List (List ℤ) → List ℤ = λ es. result_of finished (fold_of lifted combined es) in
        let whole : ℕ → List (List ℤ) = λ t. map f (prefixes (block_of p 0 (cut_at len block t))) in
        let first : whole 0 ≡ [] = ap (λ k. map f (prefixes (block_of p 0 k))) (cut-zero len block) ∙ ap (λ es. map f (prefixes es)) (block-none p parts 0) in
        let joined = parts-front lists (λ t. scan_after finished lifted combined (fold_of lifted combined (block_of p 0 (cut_at len block t))) (piece p len block t)) whole (λ t below. scan-block t) first (λ t d below. each t d (omega arith)) (length lists) (omega arith) in
        ap all_items (sym (take_all (length lists) lists (omega arith))) ∙ joined
        ∙ ap whole many ∙ ap (λ k. map f (prefixes (block_of p 0 k))) (cut-last len block count covers ∙ long) ∙ ap (λ es. map f (prefixes es)) (parts.whole)
    all-scans true count lists covers long many each =
        let f : List (List ℤ) → List ℤ = λ es. result_of finished (fold_of lifted combined es) in
        let whole : ℕ → List (List ℤ) = λ t. map f (suffixes (block_of p (cut_at len block t) len)) in
        let last : whole (length lists) ≡ [] =
        ap whole many ∙ ap (λ k. map f (suffixes (block_of p k len))) (cut-last len block count covers) ∙ ap (λ es. map f (suffixes es)) (block-none p parts len) in
        let joined = parts-back lists (λ t. scanr_before finished lifted combined (fold_of lifted combined (block_of p (cut_at len block (t + 1)) len)) (piece p len block t)) whole (λ t below. scanr-block t) (λ t d below. each t d (omega arith)) (length lists) (omega arith) in
        ap all_items (sym (take_all (length lists) lists (omega arith))) ∙ sym (append-nil (all_items (take (length lists) lists))) ∙ ap (λ xs. all_items (take (length lists) lists) ++ xs) (sym last) ∙ joined
        ∙ ap (λ k. map f (suffixes (block_of p k len))) (cut-zero len block) ∙ ap (λ k. map f (suffixes (block_of p 0 k))) long ∙ ap (λ es. map f (suffixes es)) (parts.whole)

-- a scan is as long as the list
pub length-either_scan : {C : Type 0} (finished : C → List ℤ) (lifted : List ℤ → C) (combined : C → C → C) (back : Bool) (es : List (List ℤ)) → length (either_scan finished lifted combined back es) ≡ length es
length-either_scan finished lifted combined true es = length-map (suffixes es) (fold_result finished lifted combined) ∙ length-suffixes es
length-either_scan finished lifted combined false es = length-map (prefixes es) (fold_result finished lifted combined) ∙ length-prefixes es

-- the fold of a block at its cuts
pub fold-given : {C : Type 0} (fits : C → ℕ → Type 0) (lifted : List ℤ → C) (combined : C → C → C) (p : Flow) (len block t : ℕ) (out : Option C) (from to : ℕ) → from ≡ cut_at len block t → to ≡ cut_at len block (t + 1)
    → out ≡ fold_of lifted combined (block_of p from to) → IfSome out (λ c. fits c (to - from)) → All (Admits (type_of p)) (block_of p from to) → IsBlockFold fits lifted combined p len block t out
fold-given fits lifted combined p len block t out from to first last value weight all = record {
  value = value ∙ ap (λ a. fold_of lifted combined (block_of p a to)) first ∙ ap (λ b. fold_of lifted combined (block_of p (cut_at len block t) b)) last;
  weight = subst (λ b. IfSome out (λ c. fits c (b - cut_at len block t))) last (subst (λ a. IfSome out (λ c. fits c (to - a))) first weight);
  admitted = subst (λ b. All (Admits (type_of p)) (block_of p (cut_at len block t) b)) last (subst (λ a. All (Admits (type_of p)) (block_of p a to)) first all);
}

pub if_ok : {T E : Type 0} {A B : T → Type 0} (r : Result T E) → ((v : T) → A v → B v) → IfOk r A → IfOk r B
if_ok (Ok x) f h = f x h
if_ok (Err e) f h = h

pub if_ok_both : {T E : Type 0} {A B C : T → Type 0} (r : Result T E) → ((v : T) → A v → B v → C v) → IfOk r A → IfOk r B → IfOk r C
if_ok_both (Ok x) f a b = f x a b
if_ok_both (Err e) f a b = a

-- the scan of a block at its cuts
pub scan-given : {C : Type 0} (finished : C → List ℤ) (lifted : List ℤ → C) (combined : C → C → C) (p : Flow) (len block t : ℕ) (back : Bool) (held given : Option C) (from to : ℕ)
    → held ≡ given → from ≡ cut_at len block t → to ≡ cut_at len block (t + 1)
    → scan_beside finished lifted combined back held (block_of p from to) ≡ scan_beside finished lifted combined back given (piece p len block t)
scan-given finished lifted combined p len block t back held given from to same first last =
    ap (λ h. scan_beside finished lifted combined back h (block_of p from to)) same
    ∙ ap (λ a. scan_beside finished lifted combined back given (block_of p a to)) first
    ∙ ap (λ b. scan_beside finished lifted combined back given (block_of p (cut_at len block t) b)) last
