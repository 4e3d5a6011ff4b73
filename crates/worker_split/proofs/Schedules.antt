-- Each schedule deals each number to the worker at its place.
use Rattle.std.proofs.Common.{◌≡◌, ◌≢◌, ℕ, ◌+◌, ◌≤◌, eqb, List, [], ◌∷◌, ◌++◌, length, get_or, sym, ap, subst, ◌∙◌, refl, arith, append_assoc, append-nil, length-append, eq-eqb, ne_eqb}
use Rattle.std.proofs.lemmas.Bool.{cond_both, cond-true, cond-false}
use Rattle.std.proofs.lemmas.List.{get_or_append_left}
use Rattle.std.proofs.Math.Seq.{get_or-append_seam}
use mathlib.Core.Logic.{dite}
use native.Mathlib.Decide.{ℕ_discrete, dec_lt}
use Rattle.worker_split.specs.Dealing.{times, IsDealtOnce, with_drawn, Dealing, nothing_dealt, draw, draw_all, IsDealtBy, EachScheduleDeals}
use Rattle.worker_split.proofs.DealingLemmas.{times-append, times_same, with_drawn_small, with_drawn_large, times-with_drawn_other}

module _ (n : ℕ) (schedule : List ℕ) (d : Dealing) (dealt : IsDealtBy n schedule d) where
  -- a number that no draw has reached stands in no list
  not_reached : (t v : ℕ) → length schedule ≤ t → times t (d.tickets v) ≡ 0
  not_reached t v later = dite (ℕ_discrete v (get_or schedule t 0))
      (λ e. subst (λ (o : ℕ). times t (d.tickets o) ≡ 0) (sym e) ((dealt.owner t).not_yet later))
      (λ ne. dealt.no_other t v ne)

  module _ (w : ℕ) where
    -- a draw changes nothing for a number that isn't the counter
    times-draw_other : (t v : ℕ) → length schedule ≢ t → times t ((draw n d w).tickets v) ≡ times t (d.tickets v)
    times-draw_other t v ne =
        cond_both (eqb v w) (with_drawn n d.counter (d.tickets v)) (d.tickets v) (λ xs. times t xs ≡ times t (d.tickets v))
        (λ _. times-with_drawn_other n d.counter t (d.tickets v) (λ e. ne (sym dealt.counter ∙ e)))
        (λ _. refl)

    -- nor for a worker that doesn't draw
    times-draw_else : (t v : ℕ) → v ≢ w → times t ((draw n d w).tickets v) ≡ times t (d.tickets v)
    times-draw_else t v ne = ap (times t) (cond-false (eqb v w) (with_drawn n d.counter (d.tickets v)) (d.tickets v) (ne_eqb v w ne))

    -- the worker that draws gets the counter, where it is below n
    draws : IsDealtOnce n (length schedule + 1) (length schedule) (times (length schedule) ((draw n d w).tickets w))
    draws =
        let c : ℕ = length schedule in
        let before : times c (d.tickets w) ≡ 0 = not_reached c w (omega arith) in
        let list : (draw n d w).tickets w ≡ with_drawn n c (d.tickets w) =
        cond-true (eqb w w) (with_drawn n d.counter (d.tickets w)) (d.tickets w) (eq-eqb w w refl)
        ∙ ap (λ (k : ℕ). with_drawn n k (d.tickets w)) dealt.counter in
        record {
          once = λ small _. ap (times c) (list ∙ with_drawn_small n c (d.tickets w) small)
              ∙ omega (arith, times-append c (d.tickets w) (c ∷ []), times_same c);
          too_large = λ large. ap (times c) (list ∙ with_drawn_large n c (d.tickets w) large) ∙ before;
          not_yet = λ later. absurd (omega arith);
        }

    owner : (t : ℕ) → IsDealtOnce n (length schedule + 1) t (times t ((draw n d w).tickets (get_or (schedule ++ w ∷ []) t 0)))
    owner t = dite (ℕ_discrete (length schedule) t)
        (λ e. subst (λ (u : ℕ). IsDealtOnce n (length schedule + 1) u (times u ((draw n d w).tickets (get_or (schedule ++ w ∷ []) u 0)))) e
        (subst (λ (o : ℕ). IsDealtOnce n (length schedule + 1) (length schedule) (times (length schedule) ((draw n d w).tickets o)))
        (sym (get_or-append_seam schedule w [] 0)) draws))
        (λ ne.
        let o : ℕ = get_or (schedule ++ w ∷ []) t 0 in
        let same : times t ((draw n d w).tickets o) ≡ times t (d.tickets o) = times-draw_other t o ne in
        elim (dec_lt t (length schedule)) [
          | yes reached ↦
              let is : times t (d.tickets o) ≡ times t (d.tickets (get_or schedule t 0)) =
              ap (λ (v : ℕ). times t (d.tickets v)) (get_or_append_left schedule (w ∷ []) 0 t reached) in
              let old = dealt.owner t in
              record { once = λ small _. same ∙ (is ∙ old.once small reached); too_large = λ large. same ∙ (is ∙ old.too_large large); not_yet = λ later. absurd (omega arith) }
          | no not ↦
              let none : times t ((draw n d w).tickets o) ≡ 0 = same ∙ not_reached t o (omega arith) in
              record { once = λ _ reached. absurd (omega arith); too_large = λ _. none; not_yet = λ _. none }
        ])

    no_other : (t v : ℕ) → v ≢ get_or (schedule ++ w ∷ []) t 0 → times t ((draw n d w).tickets v) ≡ 0
    no_other t v ne = dite (ℕ_discrete (length schedule) t)
        (λ e.
        let other : v ≢ w = λ h. ne (h ∙ (sym (get_or-append_seam schedule w [] 0) ∙ ap (λ (u : ℕ). get_or (schedule ++ w ∷ []) u 0) e)) in
        times-draw_else t v other ∙ not_reached t v (omega arith))
        (λ else. times-draw_other t v else ∙ elim (dec_lt t (length schedule)) as (λ _. times t (d.tickets v) ≡ 0) [
          | yes reached ↦ dealt.no_other t v (λ h. ne (h ∙ sym (get_or_append_left schedule (w ∷ []) 0 t reached)))
          | no not ↦ not_reached t v (omega arith)
        ])

    drawn : IsDealtBy n (schedule ++ w ∷ []) (draw n d w)
    drawn = let longer : length (schedule ++ w ∷ []) ≡ length schedule + 1 = length-append schedule (w ∷ []) in record {
      counter = let c = dealt.counter in omega arith;
      owner = λ t. subst (λ (k : ℕ). IsDealtOnce n k t (times t ((draw n d w).tickets (get_or (schedule ++ w ∷ []) t 0)))) (sym longer) (owner t);
      no_other = no_other;
    }

all_drawn : (n : ℕ) (before : List ℕ) (d : Dealing) → IsDealtBy n before d → (rest : List ℕ) → IsDealtBy n (before ++ rest) (draw_all n d rest)
all_drawn n before d dealt [] = subst (λ (s : List ℕ). IsDealtBy n s d) (sym (append-nil before)) dealt
all_drawn n before d dealt (w ∷ rest) =
    subst (λ (s : List ℕ). IsDealtBy n s (draw_all n (draw n d w) rest)) (append_assoc before (w ∷ []) rest)
    (all_drawn n (before ++ w ∷ []) (draw n d w) (drawn n before d dealt w) rest)

pub each_schedule : EachScheduleDeals
each_schedule n schedule =
    let none : IsDealtBy n [] nothing_dealt = record {
      counter = refl;
      owner = λ t. record { once = λ _ h. absurd (omega arith); too_large = λ _. refl; not_yet = λ _. refl };
      no_other = λ _ _ _. refl;
    } in
    all_drawn n [] nothing_dealt none schedule
