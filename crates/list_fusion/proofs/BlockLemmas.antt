-- Blocks of a pipe.
use Rattle.std.proofs.Common.{◌≡◌, ℕ, ◌+◌, ◌-◌, ◌<◌, ◌≤◌, ℤ, Bool, true, false, List, [], ◌∷◌, ◌++◌, Option, Some, None, reverse, length, get_or, take, drop, refl, ap, sym, ◌∙◌, arith, subst, slice_range}
use Rattle.std.specs.List.{All, cons_option}
use Rattle.std.specs.Option.{IfSome, option_to_list}
use Rattle.std.proofs.Math.Seq.{take-add}
use Rattle.std.proofs.lemmas.List.{drop-drop, drop_more, take_all, length-take, length-reverse}
use Rattle.std.proofs.lemmas.List.Elements.{All-append, All-nil, All-cons}
use Rattle.list_fusion.specs.declared.stage.Stage.{Stage}
use Rattle.scalar_expr.specs.Values.{values_of}
use Rattle.list_fusion.specs.declared.stage.Stage.TheVariants.{Map, Keep}
use Rattle.list_fusion.specs.Stages.{is_kept, applied, staged}
use Rattle.list_fusion.specs.Pipes.{Flow, turned, elements, places, block_of}
use Rattle.list_fusion.specs.Cuts.{EachCutFollows}
use Rattle.list_fusion.specs.Through.{through}
use Rattle.list_fusion.proofs.StageLemmas.{staged_is, staged-append, staged-reverse, staged-push, map-reverse, filter-reverse, length-staged}

pub length-turned : {X : Type 0} (b : Bool) (es : List X) → length (turned b es) ≡ length es
length-turned true es = length-reverse es
length-turned false es = refl

pub length-places : (p : Flow) → length (places p) ≡ length p.head.items
length-places p = length-turned p.reversed p.head.items

range-join : {X : Type 0} (es : List X) (from mid to : ℕ) → from ≤ mid → mid ≤ to → slice_range es from mid ++ slice_range es mid to ≡ slice_range es from to
range-join es from mid to first second =
    let n : (mid - from) + (to - mid) ≡ to - from = omega arith in
    let at : from + (mid - from) ≡ mid = omega arith in
    ap (λ k. take (mid - from) (drop from es) ++ take (to - mid) (drop k es)) (sym at)
    ∙ ap (λ xs. take (mid - from) (drop from es) ++ take (to - mid) xs) (sym (drop-drop (mid - from) from es))
    ∙ sym (take-add (mid - from) (to - mid) (drop from es))
    ∙ ap (λ k. take k (drop from es)) n

pub block-join : (p : Flow) (from mid to : ℕ) → from ≤ mid → mid ≤ to → block_of p from mid ++ block_of p mid to ≡ block_of p from to
block-join p from mid to first second =
    sym (staged-append p.stages (slice_range (places p) from mid) (slice_range (places p) mid to))
    ∙ ap (staged p.stages) (range-join (places p) from mid to first second)

pub turned-staged : (b : Bool) (ss : List Stage) (es : List (List ℤ)) → staged ss (turned b es) ≡ turned b (staged ss es)
turned-staged true ss es = staged-reverse ss es
turned-staged false ss es = refl

applied-reverse : (s : Stage) (es : List (List ℤ)) → applied s (reverse es) ≡ reverse (applied s es)
applied-reverse (Map f) es = map-reverse (values_of f.scalars) es
applied-reverse (Keep f) es = filter-reverse (is_kept f.scalars) es

turned-applied : (b : Bool) (s : Stage) (es : List (List ℤ)) → turned b (applied s es) ≡ applied s (turned b es)
turned-applied true s es = sym (applied-reverse s es)
turned-applied false s es = refl

-- the pipe's list with one stage more
pub elements-push : (b : Bool) (ss : List Stage) (s : Stage) (es : List (List ℤ)) → turned b (staged (ss ++ s ∷ []) es) ≡ applied s (turned b (staged ss es))
elements-push b ss s es = ap (turned b) (staged-push ss s es) ∙ turned-applied b s (staged ss es)

pub block-whole : (p : Flow) → block_of p 0 (length p.head.items) ≡ elements p
block-whole p =
    let n : length (places p) ≤ length p.head.items - 0 = omega (arith, length-places p) in
    ap (staged p.stages) (take_all (length p.head.items - 0) (places p) n) ∙ turned-staged p.reversed p.stages p.head.items

pub length-block : (p : Flow) (from to : ℕ) → length (block_of p from to) ≤ to - from
length-block p from to = omega (arith, length-staged p.stages (slice_range (places p) from to), length-take (to - from) (drop from (places p)))

pub blocks_follow : EachCutFollows
blocks_follow p = record { joined = block-join p; whole = block-whole p; short = length-block p }

pub block-none : (p : Flow) (from : ℕ) → block_of p from from ≡ []
block-none p from =
    let n : from - from ≡ 0 = omega arith in
    ap (λ k. staged p.stages (take k (drop from (places p)))) n ∙ staged_is p.stages []

cons_option-nil : {X : Type 0} (o : Option X) → cons_option o [] ≡ option_to_list o
cons_option-nil None = refl
cons_option-nil (Some x) = refl

-- what place i gives, if it gives an element
abbrev pub element_at : Flow → ℕ → Option (List ℤ)
element_at p i = through p.stages (get_or (places p) i [])

block-one : (p : Flow) (i : ℕ) → i < length p.head.items → block_of p i (i + 1) ≡ option_to_list (element_at p i)
block-one p i within =
    let n : (i + 1) - i ≡ 1 = omega arith in
    let there : i < length (places p) = omega (arith, length-places p) in
    ap (λ k. staged p.stages (take k (drop i (places p)))) n
    ∙ ap (λ xs. staged p.stages (take 1 xs)) (drop_more (places p) i [] there)
    ∙ staged_is p.stages (get_or (places p) i [] ∷ [])
    ∙ cons_option-nil (element_at p i)

-- a block with one place more
pub block-more : (p : Flow) (from i : ℕ) → from ≤ i → i < length p.head.items → block_of p from (i + 1) ≡ block_of p from i ++ option_to_list (element_at p i)
block-more p from i first within =
    sym (block-join p from i (i + 1) first (omega arith)) ∙ ap (λ xs. block_of p from i ++ xs) (block-one p i within)

-- a block with one place more in front
pub block-front : (p : Flow) (i to : ℕ) → i < to → to ≤ length p.head.items → block_of p i to ≡ option_to_list (element_at p i) ++ block_of p (i + 1) to
block-front p i to first within =
    sym (block-join p i (i + 1) to (omega arith) (omega arith)) ∙ ap (λ xs. xs ++ block_of p (i + 1) to) (block-one p i (omega arith))

module _ (P : List ℤ → Type 0) where
  All-option : (o : Option (List ℤ)) → IfSome o P → All P (option_to_list o)
  All-option None h = All-nil P
  All-option (Some e) h = All-cons P e [] h (All-nil P)

  pub All-none : (p : Flow) (from : ℕ) → All P (block_of p from from)
  All-none p from = subst (All P) (sym (block-none p from)) (All-nil P)

  pub All-more : (p : Flow) (from i : ℕ) → from ≤ i → i < length p.head.items → All P (block_of p from i) → IfSome (element_at p i) P → All P (block_of p from (i + 1))
  All-more p from i first within all one =
      subst (All P) (sym (block-more p from i first within)) (All-append P (block_of p from i) (option_to_list (element_at p i)) all (All-option (element_at p i) one))

  pub All-front : (p : Flow) (i to : ℕ) → i < to → to ≤ length p.head.items → All P (block_of p (i + 1) to) → IfSome (element_at p i) P → All P (block_of p i to)
  All-front p i to first within all one =
      subst (All P) (sym (block-front p i to first within)) (All-append P (option_to_list (element_at p i)) (block_of p (i + 1) to) (All-option (element_at p i) one) all)
