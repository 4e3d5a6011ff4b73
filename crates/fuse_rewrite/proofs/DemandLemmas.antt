-- Uses that are counted from the last line up.
use Rattle.std.proofs.Common.{◌≡◌, ℕ, ◌+◌, ◌<◌, Bool, true, false, List, [], ◌∷◌, length, get_or, Some, refl, sym, ap, ◌∙◌, subst, inl, inr}
use Rattle.std.specs.Prelude.{slice_get, slice_set, if◌then◌else◌}
use Rattle.std.proofs.lemmas.Bool.Decides.{eqb_tells}
use Rattle.std.proofs.lemmas.List.{get_or-set_same, get_or-set_other}
use Rattle.std.proofs.Math.ListN.{length-set}
use Rattle.std.proofs.lemmas.Option.{slice_get-get_or}
use Rattle.script_lang.specs.Syntax.{Statement}
use Rattle.script_lang.specs.declared.head.Head.{Head}
use Rattle.fuse_rewrite.specs.declared.demand.Demand.{Demand}
use Rattle.fuse_rewrite.specs.Uses.{Use, by_print, by_pipe, by_other, Uses, takes_pipe, use_by, uses_of, uses_above, uses_from}
use Rattle.fuse_rewrite.specs.Demands.{is_by_pipe, demand_of, more_demand, AreDemands}

-- one more use
pub demand_more : (u : Use) (us : List Use) → demand_of (u ∷ us) ≡ more_demand (is_by_pipe u) (demand_of us)
demand_more by_print us = refl
demand_more by_other us = refl
demand_more by_pipe [] = refl
demand_more by_pipe (by_print ∷ us) = refl
demand_more by_pipe (by_other ∷ us) = refl
demand_more by_pipe (by_pipe ∷ []) = refl
demand_more by_pipe (by_pipe ∷ u ∷ us) = refl

-- what is kept of a name's uses, as it is read
pub demand_read : (us : Uses) (ds : List Demand) (n : ℕ) (d : Demand) → AreDemands us ds → n < length ds → get_or ds n d ≡ demand_of (uses_of n us)
demand_read us ds n d are lt =
    let read : slice_get ds n ≡ Some (get_or ds n d) = slice_get-get_or ds n d lt in
    let is : slice_get ds n ≡ Some (demand_of (uses_of n us)) = are n lt in
    cc

added_here : (us : Uses) (u : Use) (ds : List Demand) (name : ℕ) (new : Demand) → name < length ds → new ≡ more_demand (is_by_pipe u) (demand_of (uses_of name us))
    → slice_get (slice_set ds name new) name ≡ Some (demand_of (u ∷ uses_of name us))
added_here us u ds name new lt is =
    let within : name < length (slice_set ds name new) = rw length-set lt in
    slice_get-get_or (slice_set ds name new) name new within
    ∙ ap (λ (e : Demand). Some e) (get_or-set_same ds name new new lt ∙ (is ∙ sym (demand_more u (uses_of name us))))

added_other : (us : Uses) (ds : List Demand) (name n : ℕ) (new : Demand) → AreDemands us ds → (n ≡ name → ⊥) → n < length (slice_set ds name new)
    → slice_get (slice_set ds name new) n ≡ Some (demand_of (uses_of n us))
added_other us ds name n new are apart lt =
    let within : n < length ds = rw length-set at lt in
    slice_get-get_or (slice_set ds name new) n new lt ∙ (ap (λ (e : Demand). Some e) (get_or-set_other ds name n new new apart) ∙ (sym (slice_get-get_or ds n new within) ∙ are n within))

-- one more use of a name
pub added : (us : Uses) (u : Use) (ds : List Demand) (name : ℕ) (d new : Demand) → AreDemands us ds → name < length ds → d ≡ demand_of (uses_of name us)
    → new ≡ more_demand (is_by_pipe u) d → AreDemands ((name, u) ∷ us) (slice_set ds name new)
added us u ds name d new are lt was is n within =
    let here : new ≡ more_demand (is_by_pipe u) (demand_of (uses_of name us)) = is ∙ ap (λ (e : Demand). more_demand (is_by_pipe u) e) was in
    elim (eqb_tells name n) [
      | inl p ↦ rw p.0 (subst (λ (m : ℕ). slice_get (slice_set ds name new) m ≡ Some (demand_of (u ∷ uses_of m us))) p.1 (added_here us u ds name new lt here))
      | inr p ↦ rw p.0 (added_other us ds name n new are (λ (e : n ≡ name). p.1 (sym e)) within)
    ]

by_choice : (b : Bool) → is_by_pipe (if b then by_pipe else by_other) ≡ b
by_choice true = refl
by_choice false = refl

pub by_pipe_is : (h : Head) → is_by_pipe (use_by h) ≡ takes_pipe h
by_pipe_is h = by_choice (takes_pipe h)

-- one more line
pub uses_next : (n : ℕ) (l : Statement) (rest below : List Statement) → rest ≡ l ∷ below → uses_from n rest ≡ uses_above n l (uses_from (n + 1) below)
unfolding uses_from
uses_next n l rest below e = rw e refl

pub uses_none : (n : ℕ) (rest : List Statement) → rest ≡ [] → uses_from n rest ≡ []
unfolding uses_from
uses_none n rest e = rw e refl
