-- Chains of a typed script's steps are linked.
use Rattle.std.proofs.Common.{◌≡◌, ℕ, zero, suc, ◌+◌, ◌<◌, ◌≤◌, Bool, true, false, List, [], ◌∷◌, ◌++◌, map, length, take, inl, inr, ◌⊎◌, refl, sym, ap, ◌∙◌, subst, arith, append_assoc, Option, Some, None}
use Rattle.std.specs.Prelude.{slice_get, reverse, not, ◌&&◌, if◌then◌else◌, option_map, option_and_then}
use Rattle.std.proofs.lemmas.Bool.{cases_Bool, false≢true, and_parts, and_from, not_from_false, false_from_ne_true}
use Rattle.std.proofs.lemmas.Option.{none-some, same_Some, slice_get-map, option_and_then_some, cond_some}
use Rattle.std.proofs.lemmas.List.{reverse-append, reverse-reverse}
use Rattle.script_lang.specs.declared.kind.Kind.{Kind}
use Rattle.script_lang.specs.declared.kind.Kind.TheVariants as kind
use Rattle.script_lang.specs.declared.head.Head.{Head}
use Rattle.script_lang.specs.declared.skel.Skel.{Skel}
use Rattle.script_lang.specs.declared.skel.Skel.TheVariants as skel
use Rattle.script_lang.specs.declared.line.Line.{Line}
use Rattle.script_lang.specs.declared.line.Line.TheVariants as line
use Rattle.script_lang.specs.Syntax.{Binding, Skeleton, Statement, binds_input, binds_let, prints}
use Rattle.script_lang.specs.Tables.{same_kind}
use Rattle.script_lang.specs.Views.{binding_of, skeleton_of, statement_of}
use Rattle.script_lang.specs.Steps.{bound_by}
use Rattle.script_lang.specs.Sound.{binding_at, AreBound, IsTypedAfter, IsTypedScript}
use Rattle.fuse_rewrite.specs.Uses.{Use, by_print, by_pipe, by_other, Uses, takes_pipe, use_by, uses_of, is_needed, all_uses}
use Rattle.fuse_rewrite.specs.Steps.{makes_pipe, is_fused, is_kept, last_of, argument_where_fused, fused_at, chain_to, Kept, has_step, steps_from, steps_of}
use Rattle.fuse_rewrite.specs.Demands.{AllBelow, names_in}
use Rattle.fuse_rewrite.specs.Chains.{IsInputLine, IsStepLine, IsKeptLine, AreKeptAbove, IsLink, AreLinked, AreLinkedAfter, AreLinkedFromHead, IsLinkedStep, EachStepIsLinked, EachChainRunsFromHead, StepsAreInOrder, EachPrintIsKept}
use Rattle.fuse_rewrite.proofs.UseLemmas.{HasUse, HasNumber, UseAbove, use_above, let_uses, print_uses}
use Rattle.fuse_rewrite.proofs.PlaceLemmas.{HaveSteps, IsPlaced, step_placed, in_order, has_kept}

-- ---- what a skeleton takes

-- a skeleton that takes a list as it comes has one argument
takes_one : (k : Skel) → takes_pipe (skeleton_of k).head ≡ true → (skeleton_of k).arguments ≡ last_of (skeleton_of k).arguments ∷ []
takes_one (skel.Map f x) takes = refl
takes_one (skel.Mapln leaf node x) takes = refl
takes_one (skel.Zip x y) takes = absurd (false≢true takes)
takes_one (skel.Filter f x) takes = refl
takes_one (skel.Rev x) takes = refl
takes_one (skel.Iota x) takes = refl
takes_one (skel.Plain x) takes = refl
takes_one (skel.Reduce o x) takes = refl
takes_one (skel.ReduceBoth down across x) takes = refl
takes_one (skel.Scan o x) takes = refl
takes_one (skel.Scanr o x) takes = refl
takes_one (skel.ScanBoth down across x) takes = refl
takes_one (skel.Rows o x) takes = refl
takes_one (skel.Cols o x) takes = refl
takes_one (skel.Transpose x) takes = refl
takes_one (skel.Uacc o x) takes = refl
takes_one (skel.Dacc o start x) takes = refl
takes_one (skel.Getchl start x) takes = refl
takes_one (skel.Getchr start x) takes = refl

takes_one_of : (t : Skeleton) (k : Skel) → skeleton_of k ≡ t → takes_pipe t.head ≡ true → t.arguments ≡ last_of t.arguments ∷ []
takes_one_of t k e = subst (λ (u : Skeleton). takes_pipe u.head ≡ true → u.arguments ≡ last_of u.arguments ∷ []) e (takes_one k)

takes_one_by : (o : Option Line) (b : Binding) (t : Skeleton) → option_map statement_of o ≡ Some (binds_let b t) → takes_pipe t.head ≡ true → t.arguments ≡ last_of t.arguments ∷ []
takes_one_by None b t e = absurd (none-some (binds_let b t) e)
takes_one_by (Some (line.Input c like)) b t e = let no : ⊥ = cc in absurd no
takes_one_by (Some (line.Let c k)) b t e = let same : skeleton_of k ≡ t = cc in takes_one_of t k same
takes_one_by (Some (line.Print n)) b t e = let no : ⊥ = cc in absurd no

takes_one_at : (ls : List Line) (n : ℕ) (b : Binding) (t : Skeleton) → slice_get (map statement_of ls) n ≡ Some (binds_let b t) → takes_pipe t.head ≡ true → t.arguments ≡ last_of t.arguments ∷ []
takes_one_at ls n b t at = takes_one_by (slice_get ls n) b t (sym (slice_get-map statement_of ls n) ∙ at)

-- ---- what stands above

in_front : (i : ℕ) (ls : List Statement) (a : ℕ) (l : Statement) → slice_get (take i ls) a ≡ Some l → (a < i) × (slice_get ls a ≡ Some l)
in_front zero ls a l at = absurd (none-some l at)
in_front (suc i) [] a l at = absurd (none-some l at)
in_front (suc i) (x ∷ ls) zero l at = (omega arith, at)
in_front (suc i) (x ∷ ls) (suc a) l at = let p = in_front i ls a l at in (omega arith, p.1)

-- the line of number a binds a name, and stands above line n
abbrev BindsAbove : List Statement → ℕ → ℕ → Type 0
BindsAbove ls n a = (a < n) × ((l : Statement) × (x : Binding) × (slice_get ls a ≡ Some l) × (bound_by l ≡ Some x))

binds_above : (ls : List Statement) (n a : ℕ) (x : Binding) → binding_at (take n ls) a ≡ Some x → BindsAbove ls n a
binds_above ls n a x is = option_and_then_some bound_by (slice_get (take n ls) a) x is (λ l at by. let p = in_front n ls a l at in (p.0, (l, x, p.1, by)))

all_bound : (ls : List Statement) (n a : ℕ) (ns : List ℕ) (xs : List Binding) → AreBound (take n ls) ns xs → HasNumber a ns → BindsAbove ls n a
all_bound ls n a [] xs are has = absurd has
all_bound ls n a (m ∷ ns) [] are has = absurd are
all_bound ls n a (m ∷ ns) (x ∷ xs) are (inl e) = subst (λ (k : ℕ). BindsAbove ls n k) e (binds_above ls n m x are.0)
all_bound ls n a (m ∷ ns) (x ∷ xs) are (inr has) = all_bound ls n a ns xs are.1 has

all_below : (ls : List Statement) (n : ℕ) (ns : List ℕ) (xs : List Binding) → AreBound (take n ls) ns xs → AllBelow n ns
all_below ls n [] xs are = tt
all_below ls n (m ∷ ns) [] are = absurd are
all_below ls n (m ∷ ns) (x ∷ xs) are = ((binds_above ls n m x are.0).0, all_below ls n ns xs are.1)

names_below : (ls : List Statement) (n : ℕ) (l : Statement) → IsTypedAfter (take n ls) l → AllBelow n (names_in l)
names_below ls n (binds_input b like) is = tt
names_below ls n (binds_let b s) is = all_below ls n s.arguments (is.1.0 ∷ is.1.1) is.1.3
names_below ls n (prints m) is = ((binds_above ls n m is.0.0 is.0.1).0, tt)

last_among : (n : ℕ) (ns : List ℕ) → HasNumber (last_of (n ∷ ns)) (n ∷ ns)
last_among n [] = inl refl
last_among n (m ∷ ns) = inr (last_among m ns)

last_bound : (before : List Statement) (ns : List ℕ) (x : Binding) (xs : List Binding) → AreBound before ns (x ∷ xs) → HasNumber (last_of ns) ns
last_bound before [] x xs are = absurd are
last_bound before (n ∷ ns) x xs are = last_among n ns

-- ---- the facts about a script that chains rest on

record IsWell (ls : List Statement) : Type 0 where
  above : (n : ℕ) (b : Binding) (t : Skeleton) (a : ℕ) → slice_get ls n ≡ Some (binds_let b t) → HasNumber a t.arguments → BindsAbove ls n a
  last : (n : ℕ) (b : Binding) (t : Skeleton) → slice_get ls n ≡ Some (binds_let b t) → HasNumber (last_of t.arguments) t.arguments
  used : (n : ℕ) (b : Binding) (t : Skeleton) (a : ℕ) → slice_get ls n ≡ Some (binds_let b t) → is_needed (uses_of n (all_uses ls)) ≡ true → HasNumber a t.arguments → HasUse (use_by t.head) (uses_of a (all_uses ls))
  one : (n : ℕ) (b : Binding) (t : Skeleton) → slice_get ls n ≡ Some (binds_let b t) → takes_pipe t.head ≡ true → t.arguments ≡ last_of t.arguments ∷ []

zero_more : (n : ℕ) → 0 + n ≡ n
zero_more n = omega arith

uses_above_lines : (ls : List Statement) → IsTypedScript ls → UseAbove 0 ls
uses_above_lines ls typed = use_above 0 ls (λ i l at. subst (λ (n : ℕ). AllBelow n (names_in l)) (sym (zero_more i)) (names_below ls i l (typed i l at)))

used_in : (ls : List Statement) (n : ℕ) (b : Binding) (t : Skeleton) (a : ℕ) → IsTypedScript ls → slice_get ls n ≡ Some (binds_let b t) → is_needed (uses_of n (all_uses ls)) ≡ true
    → HasNumber a t.arguments → HasUse (use_by t.head) (uses_of a (all_uses ls))
used_in ls n b t a typed at needed has =
    let_uses 0 ls n b t a (uses_above_lines ls typed) at (subst (λ (m : ℕ). is_needed (uses_of m (all_uses ls)) ≡ true) (sym (zero_more n)) needed) has

well : (ls : List Line) → IsTypedScript (map statement_of ls) → IsWell (map statement_of ls)
well ls typed = record {
  above = λ n b t a at has. let is = typed n (binds_let b t) at in all_bound (map statement_of ls) n a t.arguments (is.1.0 ∷ is.1.1) is.1.3 has;
  last = λ n b t at. let is = typed n (binds_let b t) at in last_bound (take n (map statement_of ls)) t.arguments is.1.0 is.1.1 is.1.3;
  used = λ n b t a at needed has. used_in (map statement_of ls) n b t a typed at needed has;
  one = takes_one_at ls;
}

-- ---- a fused line

has_needed : (v : Use) (us : List Use) → HasUse v us → is_needed us ≡ true
has_needed v [] has = absurd has
has_needed v (u ∷ us) has = refl

-- its one use takes its list as it comes
fused_use : (b : Binding) (s : Skeleton) (v : Use) (us : List Use) → is_fused b s us ≡ true → HasUse v us → by_pipe ≡ v
fused_use b s v [] fused has = absurd has
fused_use b s v (by_print ∷ us) fused has = absurd (false≢true fused)
fused_use b s v (by_other ∷ us) fused has = absurd (false≢true fused)
fused_use b s v (by_pipe ∷ []) fused (inl e) = e
fused_use b s v (by_pipe ∷ []) fused (inr has) = absurd has
fused_use b s v (by_pipe ∷ u ∷ us) fused has = absurd (false≢true fused)

piped : (c : Bool) → by_pipe ≡ (if c then by_pipe else by_other) → c ≡ true
piped true e = refl
piped false e = let no : ⊥ = cc in absurd no

-- so the skeleton that uses it takes lists so
fused_taken : (b : Binding) (s : Skeleton) (h : Head) (us : List Use) → is_fused b s us ≡ true → HasUse (use_by h) us → takes_pipe h ≡ true
fused_taken b s h us fused has = piped (takes_pipe h) (fused_use b s (use_by h) us fused has)

list_kind : (k : Kind) → same_kind k kind.List ≡ true → k ≡ kind.List
list_kind kind.Single e = absurd (false≢true e)
list_kind kind.List e = refl
list_kind kind.Matrix e = absurd (false≢true e)
list_kind kind.Tree e = absurd (false≢true e)
list_kind kind.Rose e = absurd (false≢true e)

-- its list can be taken so
fused_makes : (b : Binding) (s : Skeleton) (us : List Use) → is_fused b s us ≡ true → (b.kind ≡ kind.List) × (makes_pipe s.head ≡ true)
fused_makes b s [] fused = absurd (false≢true fused)
fused_makes b s (by_print ∷ us) fused = absurd (false≢true fused)
fused_makes b s (by_other ∷ us) fused = absurd (false≢true fused)
fused_makes b s (by_pipe ∷ []) fused = let p = and_parts (same_kind b.kind kind.List) (makes_pipe s.head) fused in (list_kind b.kind p.0, p.1)
fused_makes b s (by_pipe ∷ u ∷ us) fused = absurd (false≢true fused)

-- a line that is fused, and what it takes last
record IsFusedLine (ls : List Statement) (us : Uses) (n m : ℕ) : Type 0 where
  bound : Binding
  skeleton : Skeleton
  at : slice_get ls n ≡ Some (binds_let bound skeleton)
  fused : is_fused bound skeleton (uses_of n us) ≡ true
  last : last_of skeleton.arguments ≡ m

abbrev FusedBy : Option Statement → List Use → ℕ → Type 0
FusedBy o us m = (b : Binding) × (s : Skeleton) × (o ≡ Some (binds_let b s)) × (is_fused b s us ≡ true) × (last_of s.arguments ≡ m)

fused_by : (o : Option Statement) (us : List Use) (m : ℕ) → elim o [ None ↦ None | Some l ↦ argument_where_fused l us ] ≡ Some m → FusedBy o us m
fused_by None us m e = absurd (none-some m e)
fused_by (Some (binds_input b like)) us m e = absurd (none-some m e)
fused_by (Some (binds_let b s)) us m e = let p = cond_some (is_fused b s us) (last_of s.arguments) m e in (b, s, refl, p.0, p.1)
fused_by (Some (prints n)) us m e = absurd (none-some m e)

fused_line : (ls : List Statement) (us : Uses) (n m : ℕ) → fused_at ls us n ≡ Some m → IsFusedLine ls us n m
fused_line ls us n m e =
    let p : FusedBy (slice_get ls n) (uses_of n us) m = fused_by (slice_get ls n) (uses_of n us) m e in
    record { bound = p.0; skeleton = p.1; at = p.2; fused = p.3; last = p.4 }

argument_here : (l : Statement) (us : List Use) (b : Binding) (s : Skeleton) → l ≡ binds_let b s → is_fused b s us ≡ true → argument_where_fused l us ≡ Some (last_of s.arguments)
argument_here l us b s is fused =
    subst (λ (m : Statement). argument_where_fused m us ≡ Some (last_of s.arguments)) (sym is) (ap (λ (c : Bool). if c then Some (last_of s.arguments) else None) fused)

argument_by : (o : Option Statement) (us : List Use) (b : Binding) (s : Skeleton) → o ≡ Some (binds_let b s) → is_fused b s us ≡ true → elim o [ None ↦ None | Some l ↦ argument_where_fused l us ] ≡ Some (last_of s.arguments)
argument_by None us b s is fused = absurd (none-some (binds_let b s) is)
argument_by (Some l) us b s is fused = argument_here l us b s (same_Some l (binds_let b s) is) fused

fused_there : (ls : List Statement) (us : Uses) (n : ℕ) (b : Binding) (s : Skeleton) → slice_get ls n ≡ Some (binds_let b s) → is_fused b s (uses_of n us) ≡ true → fused_at ls us n ≡ Some (last_of s.arguments)
fused_there ls us n b s at fused = argument_by (slice_get ls n) (uses_of n us) b s at fused

-- ---- what stays kept

kept_from : (b : Binding) (s : Skeleton) (us : List Use) → is_needed us ≡ true → is_fused b s us ≡ false → is_kept b s us ≡ true
kept_from b s us needed apart = and_from (is_needed us) (not (is_fused b s us)) needed (not_from_false (is_fused b s us) apart)

-- a line that is used and not fused is an input or has a step
kept_line : (ls : List Statement) (end a : ℕ) (steps : List Kept) (l : Statement) (x : Binding) → HaveSteps (all_uses ls) 0 ls end steps → a < end
    → slice_get ls a ≡ Some l → bound_by l ≡ Some x → is_needed (uses_of a (all_uses ls)) ≡ true
    → ((b : Binding) (s : Skeleton) → slice_get ls a ≡ Some (binds_let b s) → is_fused b s (uses_of a (all_uses ls)) ≡ false) → IsKeptLine ls steps a
kept_line ls end a steps (binds_input b like) x have lt at by needed apart = inl (b, like, at)
kept_line ls end a steps (prints n) x have lt at by needed apart = absurd (none-some x by)
kept_line ls end a steps (binds_let b s) x have lt at by needed apart =
    let kept : is_kept b s (uses_of a (all_uses ls)) ≡ true = kept_from b s (uses_of a (all_uses ls)) needed (apart b s at) in
    let e = zero_more a in
    inr (b, s, at, subst (λ (n : ℕ). has_step steps n ≡ true) e (have a b s lt at (subst (λ (n : ℕ). is_kept b s (uses_of n (all_uses ls)) ≡ true) (sym e) kept)))

all_kept : (ls : List Statement) (steps : List Kept) (n : ℕ) (args : List ℕ) → ((a : ℕ) → HasNumber a args → (a < n) × IsKeptLine ls steps a) → AreKeptAbove ls steps n args
all_kept ls steps n [] h = tt
all_kept ls steps n (a ∷ args) h = let p = h a (inl refl) in (p.0, p.1, all_kept ls steps n args (λ m has. h m (inr has)))

only_one : (a m : ℕ) → HasNumber a (m ∷ []) → m ≡ a
only_one a m (inl e) = e
only_one a m (inr has) = absurd has

only_number : (a m : ℕ) (args : List ℕ) → args ≡ m ∷ [] → HasNumber a args → m ≡ a
only_number a m args e has = only_one a m (subst (λ (ns : List ℕ). HasNumber a ns) e has)

-- ---- chains

chain_none : (room : ℕ) (ls : List Statement) (us : Uses) (n : ℕ) → fused_at ls us n ≡ None → chain_to room ls us n ≡ []
unfolding chain_to
chain_none zero ls us n e = refl
chain_none (suc room) ls us n e = rw (e, chain_to) refl

chain_more : (room : ℕ) (ls : List Statement) (us : Uses) (n m : ℕ) → fused_at ls us n ≡ Some m → chain_to (suc room) ls us n ≡ chain_to room ls us m ++ n ∷ []
unfolding chain_to
chain_more room ls us n m e = rw (e, chain_to) refl

-- the chain from its end on
from_end : (room : ℕ) (ls : List Statement) (us : Uses) (n m : ℕ) → fused_at ls us n ≡ Some m → reverse (chain_to (suc room) ls us n) ≡ n ∷ reverse (chain_to room ls us m)
from_end room ls us n m e = ap (λ (ns : List ℕ). reverse ns) (chain_more room ls us n m e) ∙ reverse-append (chain_to room ls us m) (n ∷ [])

-- an argument isn't fused where the last one isn't
not_fused : (ls : List Statement) (n : ℕ) (b : Binding) (t : Skeleton) (a : ℕ) (c : Binding) (u : Skeleton) → IsWell ls → slice_get ls n ≡ Some (binds_let b t) → HasNumber a t.arguments
    → HasUse (use_by t.head) (uses_of a (all_uses ls)) → slice_get ls a ≡ Some (binds_let c u) → fused_at ls (all_uses ls) (last_of t.arguments) ≡ None
    → is_fused c u (uses_of a (all_uses ls)) ≡ false
not_fused ls n b t a c u w at has by there none = false_from_ne_true (is_fused c u (uses_of a (all_uses ls))) (λ fused.
    let takes = fused_taken c u t.head (uses_of a (all_uses ls)) fused by in
    let last : last_of t.arguments ≡ a = only_number a (last_of t.arguments) t.arguments (w.one n b t at takes) has in
    let here : fused_at ls (all_uses ls) a ≡ None = ap (λ (m : ℕ). fused_at ls (all_uses ls) m) (sym last) ∙ none in
    none-some (last_of u.arguments) (sym here ∙ fused_there ls (all_uses ls) a c u there fused))

-- where no line is fused right below a skeleton, all that it takes is kept
no_chain : (ls : List Statement) (steps : List Kept) (end n : ℕ) (b : Binding) (t : Skeleton) → IsWell ls → HaveSteps (all_uses ls) 0 ls end steps → n ≤ end
    → slice_get ls n ≡ Some (binds_let b t) → is_needed (uses_of n (all_uses ls)) ≡ true → fused_at ls (all_uses ls) (last_of t.arguments) ≡ None → AreKeptAbove ls steps n t.arguments
no_chain ls steps end n b t w have le at needed none =
    all_kept ls steps n t.arguments (λ a has.
    let p = w.above n b t a at has in
    let by = w.used n b t a at needed has in (
      p.0,
      kept_line ls end a steps p.1.0 p.1.1 have (omega (arith, p.0)) p.1.2 p.1.3 (has_needed (use_by t.head) (uses_of a (all_uses ls)) by)
          (λ c u there. not_fused ls n b t a c u w at has by there none),
    ))

abbrev Chains : List Statement → List Kept → ℕ → ℕ → Type 0
Chains ls steps end room = (n : ℕ) (b : Binding) (t : Skeleton) → n ≤ end → slice_get ls n ≡ Some (binds_let b t) → is_needed (uses_of n (all_uses ls)) ≡ true → last_of t.arguments < room
    → AreLinked ls steps n t (reverse (chain_to room ls (all_uses ls) (last_of t.arguments)))

-- where one is fused there, it is linked, and its own chain goes on
one_link : (ls : List Statement) (steps : List Kept) (end room n m : ℕ) (b : Binding) (t : Skeleton) → IsWell ls → Chains ls steps end room → n ≤ end
    → slice_get ls n ≡ Some (binds_let b t) → is_needed (uses_of n (all_uses ls)) ≡ true → last_of t.arguments < suc room → fused_at ls (all_uses ls) (last_of t.arguments) ≡ Some m
    → AreLinked ls steps n t (last_of t.arguments ∷ reverse (chain_to room ls (all_uses ls) m))
one_link ls steps end room n m b t w chains le at needed lt fused =
    let k : ℕ = last_of t.arguments in
    let has = w.last n b t at in
    let above = w.above n b t k at has in
    let by = w.used n b t k at needed has in
    let f = fused_line ls (all_uses ls) k m fused in
    let makes = fused_makes f.bound f.skeleton (uses_of k (all_uses ls)) f.fused in
    let takes = fused_taken f.bound f.skeleton t.head (uses_of k (all_uses ls)) f.fused by in
    let further = w.above k f.bound f.skeleton (last_of f.skeleton.arguments) f.at (w.last k f.bound f.skeleton f.at) in
    let rest = chains k f.bound f.skeleton (omega (arith, above.0)) f.at (has_needed (use_by t.head) (uses_of k (all_uses ls)) by) (omega (arith, further.0)) in (
      f.bound,
      f.skeleton,
      record { above = above.0; line = f.at; list = makes.0; makes = makes.1; takes = takes; only = w.one n b t at takes },
      subst (λ (x : ℕ). AreLinked ls steps k f.skeleton (reverse (chain_to room ls (all_uses ls) x))) f.last rest,
    )

linked_by : (ls : List Statement) (steps : List Kept) (end room n : ℕ) (b : Binding) (t : Skeleton) → IsWell ls → HaveSteps (all_uses ls) 0 ls end steps → Chains ls steps end room → n ≤ end
    → slice_get ls n ≡ Some (binds_let b t) → is_needed (uses_of n (all_uses ls)) ≡ true → last_of t.arguments < suc room
    → (o : Option ℕ) → fused_at ls (all_uses ls) (last_of t.arguments) ≡ o → AreLinked ls steps n t (reverse (chain_to (suc room) ls (all_uses ls) (last_of t.arguments)))
linked_by ls steps end room n b t w have chains le at needed lt None is =
    subst (λ (ns : List ℕ). AreLinked ls steps n t (reverse ns)) (sym (chain_none (suc room) ls (all_uses ls) (last_of t.arguments) is)) (no_chain ls steps end n b t w have le at needed is)
linked_by ls steps end room n b t w have chains le at needed lt (Some m) is =
    subst (λ (ns : List ℕ). AreLinked ls steps n t ns) (sym (from_end room ls (all_uses ls) (last_of t.arguments) m is)) (one_link ls steps end room n m b t w chains le at needed lt is)

linked : (ls : List Statement) (steps : List Kept) (end room : ℕ) → IsWell ls → HaveSteps (all_uses ls) 0 ls end steps → Chains ls steps end room
linked ls steps end zero w have n b t le at needed lt = absurd (omega arith)
linked ls steps end (suc room) w have n b t le at needed lt =
    linked_by ls steps end room n b t w have (linked ls steps end room w have) le at needed lt (fused_at ls (all_uses ls) (last_of t.arguments)) refl

-- ---- the laws

step_linked : (ls : List Statement) (steps : List Kept) (s : Kept) → IsWell ls → IsPlaced ls (all_uses ls) 0 ls steps s → IsLinkedStep ls steps s
step_linked ls steps s w p =
    let n : ℕ = p.place in
    let e = zero_more n in
    let kept : is_kept p.bound p.skeleton (uses_of n (all_uses ls)) ≡ true = subst (λ (m : ℕ). is_kept p.bound p.skeleton (uses_of m (all_uses ls)) ≡ true) e p.kept in
    let needed = (and_parts (is_needed (uses_of n (all_uses ls))) (not (is_fused p.bound p.skeleton (uses_of n (all_uses ls)))) kept).0 in
    let further = w.above n p.bound p.skeleton (last_of p.skeleton.arguments) p.at (w.last n p.bound p.skeleton p.at) in
    let chain : s.chain ≡ chain_to n ls (all_uses ls) (last_of p.skeleton.arguments) = p.chain ∙ ap (λ (m : ℕ). chain_to m ls (all_uses ls) (last_of p.skeleton.arguments)) e in
    let line_is : s.line ≡ n = p.line ∙ e in
    let is = linked ls steps n n w p.earlier n p.bound p.skeleton (omega arith) p.at needed further.0 in (
      p.bound,
      p.skeleton,
      subst (λ (m : ℕ). slice_get ls m ≡ Some (binds_let p.bound p.skeleton)) (sym line_is) p.at,
      subst (λ (m : ℕ). AreLinked ls steps m p.skeleton (reverse s.chain)) (sym line_is) (subst (λ (ns : List ℕ). AreLinked ls steps n p.skeleton (reverse ns)) (sym chain) is),
    )

pub each_linked : EachStepIsLinked
each_linked ls typed i s at =
    let lines : List Statement = map statement_of ls in
    step_linked lines (take i (steps_of lines)) s (well ls typed) (step_placed lines (all_uses lines) 0 lines i s at)

-- lines below line m, which is linked to these lines after it
head_first : (lines : List Statement) (steps : List Kept) (n : ℕ) (t : Skeleton) (m : ℕ) (b : Binding) (u : Skeleton) (below after : List ℕ)
    → AreLinked lines steps m u below → AreLinkedAfter lines m b u after n t → AreLinkedFromHead lines steps (reverse below ++ m ∷ after) n t
head_first lines steps n t m b u [] after kept linked = (b, u, kept, linked)
head_first lines steps n t m b u (k ∷ below) after is linked =
    let e : reverse (k ∷ below) ++ m ∷ after ≡ reverse below ++ k ∷ m ∷ after =
    ap (λ (ks : List ℕ). ks ++ m ∷ after) (reverse-append (k ∷ []) below) ∙ append_assoc (reverse below) (k ∷ []) (m ∷ after) in
    subst (λ (ks : List ℕ). AreLinkedFromHead lines steps ks n t) (sym e) (head_first lines steps n t k is.0 is.1 below (m ∷ after) is.3 (b, u, is.2, linked))

from_head : (lines : List Statement) (steps : List Kept) (n : ℕ) (t : Skeleton) (ms : List ℕ) → AreLinked lines steps n t ms → AreLinkedFromHead lines steps (reverse ms) n t
from_head lines steps n t [] is = is
from_head lines steps n t (m ∷ ms) is =
    subst (λ (ks : List ℕ). AreLinkedFromHead lines steps ks n t) (sym (reverse-append (m ∷ []) ms)) (head_first lines steps n t m is.0 is.1 ms [] is.3 is.2)

pub each_from_head : EachChainRunsFromHead
each_from_head lines steps n t chain is = subst (λ (ks : List ℕ). AreLinkedFromHead lines steps ks n t) (reverse-reverse chain) (from_head lines steps n t (reverse chain) is)

pub each_in_order : StepsAreInOrder
each_in_order lines = in_order lines (all_uses lines) 0 lines

not_piped : by_pipe ≡ by_print → ⊥
not_piped e = cc

pub each_printed : EachPrintIsKept
each_printed ls typed i n at =
    let lines : List Statement = map statement_of ls in
    let is = typed i (prints n) at in
    let p = binds_above lines i n is.0.0 is.0.1 in
    let by = print_uses 0 lines i n at in (
      p.0,
      kept_line lines i n (steps_of lines) p.1.0 p.1.1 (λ j b t lt there kept. has_kept lines (all_uses lines) 0 lines j b t there kept) p.0 p.1.2 p.1.3
          (has_needed by_print (uses_of n (all_uses lines)) by)
          (λ b s there. false_from_ne_true (is_fused b s (uses_of n (all_uses lines))) (λ fused. not_piped (fused_use b s by_print (uses_of n (all_uses lines)) fused by))),
    )
