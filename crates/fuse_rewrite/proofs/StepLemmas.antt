-- Which names are fused, by what is kept of their uses; steps from the first line down.
use Rattle.std.proofs.Common.{◌≡◌, ℕ, ◌+◌, Bool, true, false, List, [], ◌∷◌, ◌++◌, Option, Some, None, refl, sym, ap, ◌∙◌, append_assoc}
use Rattle.std.specs.Prelude.{if◌then◌else◌}
use Rattle.std.proofs.lemmas.List.{append-nil}
use Rattle.script_lang.specs.Syntax.{Binding, Skeleton, Statement, binds_input, binds_let, prints}
use Rattle.fuse_rewrite.specs.Uses.{Use, by_print, by_pipe, by_other, Uses, uses_of, is_needed}
use Rattle.fuse_rewrite.specs.Steps.{is_fused, is_kept, argument_where_fused, last_of, chain_to, step_of, step_at, steps_from, Kept}
use Rattle.fuse_rewrite.specs.declared.demand.Demand.{Demand}
use Rattle.fuse_rewrite.specs.Demands.{demand_of, used_by, fused_by, kept_by, argument_by}
use Rattle.fuse_rewrite.specs.Arguments.{listed}

-- what is fused and kept, by what is kept of the uses
pub fused_is : (b : Binding) (s : Skeleton) (us : List Use) → is_fused b s us ≡ fused_by (demand_of us) b s
fused_is b s [] = refl
fused_is b s (by_print ∷ us) = refl
fused_is b s (by_other ∷ us) = refl
fused_is b s (by_pipe ∷ []) = refl
fused_is b s (by_pipe ∷ u ∷ us) = refl

pub used_is : (us : List Use) → is_needed us ≡ used_by (demand_of us)
used_is [] = refl
used_is (by_print ∷ us) = refl
used_is (by_other ∷ us) = refl
used_is (by_pipe ∷ []) = refl
used_is (by_pipe ∷ u ∷ us) = refl

pub kept_is : (b : Binding) (s : Skeleton) (us : List Use) → is_kept b s us ≡ kept_by (demand_of us) b s
kept_is b s us = rw (used_is us, fused_is b s us) refl

pub argument_is : (l : Statement) (us : List Use) → argument_where_fused l us ≡ argument_by (demand_of us) l
argument_is (binds_input b like) us = refl
argument_is (binds_let b s) us = rw (fused_is b s us) refl
argument_is (prints n) us = refl

pub last_is : (o : Option ℕ) (y : ℕ) (args : List ℕ) → listed o y ≡ args → last_of args ≡ y
last_is None y args e = rw (sym e) refl
last_is (Some x) y args e = rw (sym e) refl

kept_read : (b : Binding) (s : Skeleton) (us : List Use) (d : Demand) (r : Bool) → d ≡ demand_of us → r ≡ kept_by d b s → is_kept b s us ≡ r
kept_read b s us d r e is = kept_is b s us ∙ (ap (λ (f : Demand). kept_by f b s) (sym e) ∙ sym is)

with_step : (kept : Bool) (steps : List Kept) → kept ≡ true → (if kept then steps else []) ≡ steps
with_step true steps e = refl
with_step false steps e = absurd (cc)

without_step : (kept : Bool) (steps : List Kept) → kept ≡ false → (if kept then steps else []) ≡ []
without_step false steps e = refl
without_step true steps e = absurd (cc)

same_step : (s : Kept) (n : ℕ) (chain : List ℕ) → s.line ≡ n → s.chain ≡ chain → s ≡ record { line = n; chain = chain }
same_step s n chain e f = rw (sym e, sym f) refl

-- a line that is kept, and one that isn't
pub step_is : (ls : List Statement) (us : Uses) (n : ℕ) (b : Binding) (s : Skeleton) (d : Demand) (r : Bool) (k : Kept) → d ≡ demand_of (uses_of n us) → r ≡ kept_by d b s → r ≡ true
    → k.line ≡ n → k.chain ≡ chain_to n ls us (last_of s.arguments) → k ∷ [] ≡ step_at ls us n (binds_let b s)
step_is ls us n b s d r k e is yet line chain =
    ap (λ (x : Kept). x ∷ []) (same_step k n (chain_to n ls us (last_of s.arguments)) line chain)
    ∙ sym (with_step (is_kept b s (uses_of n us)) (step_of ls us n s ∷ []) (kept_read b s (uses_of n us) d r e is ∙ yet))

pub step_none : (ls : List Statement) (us : Uses) (n : ℕ) (b : Binding) (s : Skeleton) (d : Demand) (r : Bool) → d ≡ demand_of (uses_of n us) → r ≡ kept_by d b s → r ≡ false
    → [] ≡ step_at ls us n (binds_let b s)
step_none ls us n b s d r e is yet = sym (without_step (is_kept b s (uses_of n us)) (step_of ls us n s ∷ []) (kept_read b s (uses_of n us) d r e is ∙ yet))

-- one line more
pub steps_next : (ls : List Statement) (us : Uses) (n : ℕ) (l : Statement) (rest below : List Statement) (steps step total : List Kept) → rest ≡ l ∷ below
    → step ≡ step_at ls us n l → steps ++ steps_from ls us n rest ≡ total → (steps ++ step) ++ steps_from ls us (n + 1) below ≡ total
unfolding steps_from
steps_next ls us n l rest below steps step total e is so =
    rw is (append_assoc steps (step_at ls us n l) (steps_from ls us (n + 1) below) ∙ (ap (λ (rs : List Statement). steps ++ steps_from ls us n rs) (sym e) ∙ so))

pub steps_done : (ls : List Statement) (us : Uses) (n : ℕ) (rest : List Statement) (steps total : List Kept) → rest ≡ [] → steps ++ steps_from ls us n rest ≡ total → steps ≡ total
unfolding steps_from
steps_done ls us n rest steps total e so = sym (append-nil steps) ∙ (ap (λ (rs : List Statement). steps ++ steps_from ls us n rs) (sym e) ∙ so)
