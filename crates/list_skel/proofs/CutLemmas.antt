-- Blocks at their cuts.
use Rattle.std.proofs.Common.{◌≡◌, ℕ, zero, suc, ◌+◌, ◌*◌, ◌/◌, ◌-◌, ◌<◌, ◌≤◌, ℤ, Bool, true, false, List, [], ◌∷◌, ◌++◌, min, length, get_or, take, drop, refl, ap, sym, ◌∙◌, arith, subst, add-one}
use Rattle.std.specs.List.{All, flat_map}
use Rattle.std.proofs.Math.Nat.{mul-le-mul_left}
use Rattle.std.proofs.lemmas.List.{take_more, append-nil, append_assoc, take_all, take-append-drop, length-append}
use Rattle.std.proofs.lemmas.List.Elements.{All-append, All-nil}
use Rattle.std.proofs.lemmas.Grind.{flat_map-append}
use Rattle.op_laws.specs.Elements.{Elements}
use Rattle.op_laws.proofs.FoldLemmas.{All-front, All-back}
use Rattle.list_fusion.specs.Pipes.{Flow, elements, block_of}
use Rattle.list_fusion.specs.Cuts.{BlocksFollow}
use Rattle.list_skel.specs.Blocks.{cut_at, piece, outer_places}
use Rattle.list_skel.specs.Given.{all_items}

-- how many blocks x + 1 places make
pub count-covers : (x n : ℕ) → 0 < n → x + 1 ≤ (x / n + 1) * n
count-covers x n some = omega arith

pub count-begins : (x n t : ℕ) → 0 < n → t < x / n + 1 → t * n < x + 1
count-begins x n t some below =
    let last : t ≤ x / n = omega arith in
    omega (arith, mul-le-mul_left n last)

pub cut-zero : (len block : ℕ) → cut_at len block 0 ≡ 0
cut-zero len block = omega arith

-- blocks stand in order
pub cut-ordered : (len block t : ℕ) → cut_at len block t ≤ cut_at len block (t + 1)
cut-ordered len block t = omega arith

pub cut-within : (len block t : ℕ) → cut_at len block t ≤ len
cut-within len block t = omega arith

pub cut-last : (len block count : ℕ) → len ≤ count * block → cut_at len block count ≡ len
cut-last len block count covers = omega arith

empty-if-short : {X : Type 0} (xs : List X) → length xs ≤ 0 → xs ≡ []
empty-if-short [] short = refl
empty-if-short (x ∷ xs) short = absurd (omega (arith, short))

-- a block of no places has no elements
pub block-none : (p : Flow) → BlocksFollow p → (from : ℕ) → block_of p from from ≡ []
block-none p parts from = empty-if-short (block_of p from from) (omega (arith, parts.short from from))

-- one block more
pub front-more : (p : Flow) → BlocksFollow p → (len block t : ℕ) → block_of p 0 (cut_at len block t) ++ piece p len block t ≡ block_of p 0 (cut_at len block (t + 1))
front-more p parts len block t = parts.joined 0 (cut_at len block t) (cut_at len block (t + 1)) (omega arith) (cut-ordered len block t)

pub back-more : (p : Flow) → BlocksFollow p → (len block t : ℕ) → piece p len block t ++ block_of p (cut_at len block (t + 1)) len ≡ block_of p (cut_at len block t) len
back-more p parts len block t = parts.joined (cut_at len block t) (cut_at len block (t + 1)) len (cut-ordered len block t) (cut-within len block (t + 1))

module _ (lists : List Elements) where
  items_more : (n : ℕ) (d : Elements) → n < length lists → all_items (take (suc n) lists) ≡ all_items (take n lists) ++ (get_or lists n d).items
  items_more n d within =
      let next : suc n ≡ n + 1 = omega arith in
      ap (λ k. all_items (take k lists)) next
      ∙ ap all_items (take_more lists n d within)
      ∙ flat_map-append (λ (x : Elements). x.items) (take n lists) (get_or lists n d ∷ [])
      ∙ ap (λ xs. all_items (take n lists) ++ xs) (append-nil (get_or lists n d).items)

  -- the lists up to one have no more elements than all
  pub items-within : (n : ℕ) (d : Elements) → n < length lists → length (all_items (take n lists)) + length (get_or lists n d).items ≤ length (all_items lists)
  items-within n d within =
      let whole = ap all_items (sym (take-append-drop (suc n) lists)) ∙ flat_map-append (λ (x : Elements). x.items) (take (suc n) lists) (drop (suc n) lists) in
      omega (arith, ap length whole, length-append (all_items (take (suc n) lists)) (all_items (drop (suc n) lists)), ap length (items_more n d within), length-append (all_items (take n lists)) (get_or lists n d).items)

  module _ (part whole : ℕ → List (List ℤ)) where
    -- lists that each give the next part give the whole
    pub parts-front : ((t : ℕ) → t < length lists → whole t ++ part t ≡ whole (t + 1)) → whole 0 ≡ [] → ((t : ℕ) (d : Elements) → t < length lists → (get_or lists t d).items ≡ part t)
        → (n : ℕ) → n ≤ length lists → all_items (take n lists) ≡ whole n
    parts-front more none each zero within = sym none
    parts-front more none each (suc n) within =
        let d : Elements = record { ty = []; items = [] } in
        let next : n + 1 ≡ suc n = omega arith in
        items_more n d (omega arith)
        ∙ ap (λ xs. xs ++ (get_or lists n d).items) (parts-front more none each n (omega arith))
        ∙ ap (λ xs. whole n ++ xs) (each n d (omega arith))
        ∙ more n (omega arith) ∙ ap whole next

    -- the same from behind
    pub parts-back : ((t : ℕ) → t < length lists → part t ++ whole (t + 1) ≡ whole t) → ((t : ℕ) (d : Elements) → t < length lists → (get_or lists t d).items ≡ part t)
        → (n : ℕ) → n ≤ length lists → all_items (take n lists) ++ whole n ≡ whole 0
    parts-back more each zero within = refl
    parts-back more each (suc n) within =
        let d : Elements = record { ty = []; items = [] } in
        let next : suc n ≡ n + 1 = omega arith in
        ap (λ xs. xs ++ whole (suc n)) (items_more n d (omega arith))
        ∙ append_assoc (all_items (take n lists)) (get_or lists n d).items (whole (suc n))
        ∙ ap (λ xs. all_items (take n lists) ++ (xs ++ whole (suc n))) (each n d (omega arith))
        ∙ ap (λ k. all_items (take n lists) ++ (part n ++ whole k)) next
        ∙ ap (λ xs. all_items (take n lists) ++ xs) (more n (omega arith))
        ∙ parts-back more each n (omega arith)

-- what holds of each block's elements holds of all elements in front of a cut
module _ (P : List ℤ → Type 0) (p : Flow) (parts : BlocksFollow p) (len block : ℕ) where
  All-fronts : (count : ℕ) → ((t : ℕ) → t < count → All P (piece p len block t)) → All P (block_of p 0 (cut_at len block count))
  All-fronts zero each = subst (λ k. All P (block_of p 0 k)) (sym (cut-zero len block)) (subst (All P) (sym (block-none p parts 0)) (All-nil P))
  All-fronts (suc n) each =
      let next : n + 1 ≡ suc n = omega arith in
      let front = All-fronts n (λ t below. each t (omega arith)) in
      subst (λ k. All P (block_of p 0 (cut_at len block k))) next
      (subst (All P) (front-more p parts len block n) (All-append P (block_of p 0 (cut_at len block n)) (piece p len block n) front (each n (omega arith))))

  -- and of the whole
  pub All-blocks : (count : ℕ) → len ≤ count * block → ((t : ℕ) → t < count → All P (piece p len block t)) → All P (block_of p 0 len)
  All-blocks count covers each = subst (λ k. All P (block_of p 0 k)) (cut-last len block count covers) (All-fronts count each)

  -- of a part
  pub All-part : (from to : ℕ) → from ≤ to → to ≤ len → All P (block_of p 0 len) → All P (block_of p from to)
  All-part from to first second all =
      let back = All-back P (block_of p 0 from) (block_of p from len) (subst (All P) (sym (parts.joined 0 from len (omega arith) (omega arith))) all) in
      All-front P (block_of p from to) (block_of p to len) (subst (All P) (sym (parts.joined from to len first second)) back)

-- the blocks' lists one after another are the pipe's list
pub all-pieces : (p : Flow) → BlocksFollow p → (len block count : ℕ) (lists : List Elements) → len ≤ count * block → len ≡ length p.head.items → length lists ≡ count
    → ((t : ℕ) (d : Elements) → t < count → (get_or lists t d).items ≡ piece p len block t) → all_items lists ≡ elements p
all-pieces p parts len block count lists covers long many each =
    let first : block_of p 0 (cut_at len block 0) ≡ [] = ap (block_of p 0) (cut-zero len block) ∙ block-none p parts 0 in
    let joined = parts-front lists (piece p len block) (λ t. block_of p 0 (cut_at len block t)) (λ t below. front-more p parts len block t) first (λ t d below. each t d (omega arith)) (length lists) (omega arith) in
    ap all_items (sym (take_all (length lists) lists (omega arith))) ∙ joined
    ∙ ap (λ k. block_of p 0 (cut_at len block k)) many ∙ ap (block_of p 0) (cut-last len block count covers) ∙ ap (block_of p 0) long ∙ parts.whole

-- what stands outside a block and the block have no more places than the list
pub outer-few : (back : Bool) (len block t : ℕ) → outer_places back len block t + (cut_at len block (t + 1) - cut_at len block t) ≤ len
outer-few true len block t = let ordered = cut-ordered len block t in let last = cut-within len block (t + 1) in omega arith
outer-few false len block t = let ordered = cut-ordered len block t in let last = cut-within len block (t + 1) in omega arith
