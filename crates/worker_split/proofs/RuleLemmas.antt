-- Each step on a board's table keeps its rule.
use Rattle.std.proofs.Common.{◌≡◌, ◌≢◌, ℕ, zero, suc, ◌+◌, ◌%◌, ◌^◌, ◌<◌, ◌≤◌, Bool, true, false, List, [], ◌∷◌, ◌++◌, length, get_or, set, sym, refl, ap, ap₂, ◌∙◌, subst, arith, length-set, get_or-set_same, ⊎_elim}
use Rattle.std.specs.List.{sum_by}
use Rattle.std.proofs.lemmas.List.Sums.{sum_by_push, sum_by-le-sum_by}
use Rattle.std.proofs.lemmas.Bool.{le-leb, lt-leb}
use mathlib.Core.Logic.{dite}
use mathlib.Core.Option.{none, some}
use native.Mathlib.Decide.{ℕ_discrete, dec_lt}
use lib.ListN.{get_elem?}
use Rattle.atomic_table.specs.Table.{State, Me, step, keeps, stepped, Allows, Splits, Joins, Seen}
use Rattle.atomic_table.proofs.Lists.{at_set, at_snoc}
use Rattle.worker_split.specs.declared.rule.Size.{Size}
use Rattle.worker_split.specs.declared.rule.View.{View}
use Rattle.worker_split.specs.declared.rule.Role.{Role}
use Rattle.worker_split.specs.declared.rule.Role.TheVariants.{Ended, First, Other}
use Rattle.worker_split.specs.Dealing.{times, IsDealtOnce}
use Rattle.worker_split.specs.Rule.{live, made, taken, first, late, live_role, late_role, made_role, taken_role, first_role, has, ended, fresh, Fits, IsKept, IsDealt, after_draw, Draws, more_taken, gathered, number_of, role_at}
use Rattle.worker_split.proofs.DealingLemmas.{times-append, times_same, times_else, times_at, with_drawn_small, with_drawn_large}
use Rattle.worker_split.proofs.Sums.{sum_by-set_at, at-le-sum_by, two_at-le-sum_by, sum_by_alone}

-- ---- the sums over all views, where one view changes or joins

record SumsAfterSet (views : List View) (id : ℕ) (v w : View) : Type 0 where
  live_is : sum_by live (set views id w) + live v ≡ sum_by live views + live w
  late_is : sum_by late (set views id w) + late v ≡ sum_by late views + late w
  made_is : sum_by made (set views id w) + made v ≡ sum_by made views + made w
  taken_is : sum_by taken (set views id w) + taken v ≡ sum_by taken views + taken w
  first_is : sum_by first (set views id w) + first v ≡ sum_by first views + first w
  has_is : (t : ℕ) → sum_by (has t) (set views id w) + has t v ≡ sum_by (has t) views + has t w

sums_after_set : (views : List View) (id : ℕ) (v w : View) → get_elem? views id ≡ some v → SumsAfterSet views id v w
sums_after_set views id v w at = record {
  live_is = sum_by-set_at live views id v w at;
  late_is = sum_by-set_at late views id v w at;
  made_is = sum_by-set_at made views id v w at;
  taken_is = sum_by-set_at taken views id v w at;
  first_is = sum_by-set_at first views id v w at;
  has_is = λ t. sum_by-set_at (has t) views id v w at;
}

record SumsAfterPush (views : List View) (w : View) : Type 0 where
  live_is : sum_by live (views ++ w ∷ []) ≡ sum_by live views + live w
  late_is : sum_by late (views ++ w ∷ []) ≡ sum_by late views + late w
  made_is : sum_by made (views ++ w ∷ []) ≡ sum_by made views + made w
  taken_is : sum_by taken (views ++ w ∷ []) ≡ sum_by taken views + taken w
  first_is : sum_by first (views ++ w ∷ []) ≡ sum_by first views + first w
  has_is : (t : ℕ) → sum_by (has t) (views ++ w ∷ []) ≡ sum_by (has t) views + has t w

sums_after_push : (views : List View) (w : View) → SumsAfterPush views w
sums_after_push views w = record {
  live_is = sum_by_push live views w;
  late_is = sum_by_push late views w;
  made_is = sum_by_push made views w;
  taken_is = sum_by_push taken views w;
  first_is = sum_by_push first views w;
  has_is = λ t. sum_by_push (has t) views w;
}

each_set : (P : View → Type 0) (views : List View) (id : ℕ) (w : View) → P w → ((j : ℕ) (v : View) → get_elem? views j ≡ some v → P v)
    → (j : ℕ) (v : View) → get_elem? (set views id w) j ≡ some v → P v
each_set P views id w here others j v e = ⊎_elim (λ t. subst P t.1 here) (λ t. others j v t.1) (at_set views id j w v e)

each_snoc : (P : View → Type 0) (views : List View) (w : View) → P w → ((j : ℕ) (v : View) → get_elem? views j ≡ some v → P v)
    → (j : ℕ) (v : View) → get_elem? (views ++ w ∷ []) j ≡ some v → P v
each_snoc P views w here others j v e = ⊎_elim (λ t. others j v t) (λ t. subst P t here) (at_snoc views w v j e)

-- ---- a draw

late_role-le : (spent : Bool) (role : Role) → late_role spent role ≤ live_role role
late_role-le true role = omega arith
late_role-le false role = omega arith

-- the counter is far below the word's end
counter_small : (z : Size) (c : ℕ) (views : List View) → IsKept z c views → c < 8589934592
counter_small z c views kept =
    let below = sum_by-le-sum_by late live views (λ v. late_role-le v.spent v.role) in
    let b = kept.bounded in let s = kept.small in let m = kept.few in let n = kept.counted in
    omega arith

-- a view that the others leave alone fits a later counter too
fits_later : (n c : ℕ) (v : View) → Fits n c v → Fits n (c + 1) v
fits_later n c v f = record { same = f.same; bare = f.bare; late = λ h. let l = f.late h in omega arith }

once_drawn : (n c t a b : ℕ) → c < n → IsDealtOnce n c t a → b ≡ a + times t (c ∷ []) → IsDealtOnce n (c + 1) t b
once_drawn n c t a b small old e = dite (ℕ_discrete c t)
    (λ h.
    let one : times t (c ∷ []) ≡ 1 = subst (λ (u : ℕ). times u (c ∷ []) ≡ 1) h (times_same c) in
    let before = old.not_yet in
    record { once = λ p q. omega arith; too_large = λ p. absurd (omega arith); not_yet = λ p. absurd (omega arith) })
    (λ ne.
    let no : times t (c ∷ []) ≡ 0 = times_else c t ne in
    let x = old.once in let y = old.too_large in let z = old.not_yet in
    record { once = λ p q. omega arith; too_large = λ p. omega arith; not_yet = λ p. omega arith })

once_stays : (n c t a b : ℕ) → n ≤ c → IsDealtOnce n c t a → b ≡ a → IsDealtOnce n (c + 1) t b
once_stays n c t a b large old e =
    let x = old.once in let y = old.too_large in let z = old.not_yet in
    record { once = λ p q. omega arith; too_large = λ p. omega arith; not_yet = λ p. omega arith }

-- the view after a draw that found the ticket c
abbrev drew : View → ℕ → View
drew v c = record v { tickets = v.tickets ++ c ∷ []; spent = false; read = c }

-- and after one that found no ticket left
abbrev spends : View → ℕ → View
spends v c = record v { spent = true; read = c }

drew_is : (v : View) (c : ℕ) → c < v.n → drew v c ≡ after_draw v c
drew_is v c small =
    ap₂ (λ (ts : List ℕ) (b : Bool). record v { tickets = ts; spent = b; read = c })
    (sym (with_drawn_small v.n c v.tickets small)) (sym (lt-leb v.n c small))

spends_is : (v : View) (c : ℕ) → v.n ≤ c → spends v c ≡ after_draw v c
spends_is v c large =
    ap₂ (λ (ts : List ℕ) (b : Bool). record v { tickets = ts; spent = b; read = c })
    (sym (with_drawn_large v.n c v.tickets large)) (sym (le-leb v.n c large))

module _ (z : Size) (c id : ℕ) (views : List View) (kept : IsKept z c views) (v : View) (at : get_elem? views id ≡ some v) (unspent : v.spent ≡ false) (alive : live v ≡ 1) where
  not_late : late v ≡ 0
  not_late = ap (λ b. late_role b v.role) unspent

  kept_drew : c < z.n → IsKept z (c + 1) (set views id (drew v c))
  kept_drew small =
      let w = drew v c in let sums = sums_after_set views id v w at in let no = not_late in
      let old = kept.fit id v at in let b = kept.bounded in let n = kept.counted in let few = kept.few in let one = kept.one_first in
      record {
        once = λ t. let h = sums.has_is t in let app = times-append t v.tickets (c ∷ []) in
            once_drawn z.n c t (sum_by (has t) views) (sum_by (has t) (set views id w)) small (kept.once t) (omega arith);
        bounded = omega arith;
        counted = omega arith;
        few = omega arith;
        one_first = omega arith;
        fit = each_set (Fits z.n (c + 1)) views id w
            (record { same = old.same; bare = λ h. absurd (omega arith); late = λ h. absurd (omega arith) })
            (λ j x e. fits_later z.n c x (kept.fit j x e));
        small = kept.small;
      }

  kept_spends : z.n ≤ c → IsKept z (c + 1) (set views id (spends v c))
  kept_spends large =
      let w = spends v c in let sums = sums_after_set views id v w at in let no = not_late in
      let old = kept.fit id v at in let b = kept.bounded in let n = kept.counted in let few = kept.few in let one = kept.one_first in
      record {
        once = λ t. let h = sums.has_is t in
            once_stays z.n c t (sum_by (has t) views) (sum_by (has t) (set views id w)) large (kept.once t) (omega arith);
        bounded = omega arith;
        counted = omega arith;
        few = omega arith;
        one_first = omega arith;
        fit = each_set (Fits z.n (c + 1)) views id w
            (record { same = old.same; bare = λ h. absurd (omega arith); late = λ h. omega arith })
            (λ j x e. fits_later z.n c x (kept.fit j x e));
        small = kept.small;
      }

  kept_after_draw : IsKept z (c + 1) (set views id (after_draw v c))
  kept_after_draw =
      let same : v.n ≡ z.n = (kept.fit id v at).same alive in
      elim (dec_lt c z.n) as (λ _. IsKept z (c + 1) (set views id (after_draw v c))) [
        | yes small ↦ subst (λ (w : View). IsKept z (c + 1) (set views id w)) (drew_is v c (omega arith)) (kept_drew small)
        | no not ↦ subst (λ (w : View). IsKept z (c + 1) (set views id w)) (spends_is v c (omega arith)) (kept_spends (omega arith))
      ]

-- each ticket that a view has is below the counter
tickets_below : (z : Size) (c id : ℕ) (views : List View) → IsKept z c views → (v : View) → get_elem? views id ≡ some v
    → (i d : ℕ) → i < length v.tickets → get_or v.tickets i d < c
tickets_below z c id views kept v at i d h =
    let t : ℕ = get_or v.tickets i d in
    let some_there : 1 ≤ times t v.tickets = times_at v.tickets i d h in
    let all = at-le-sum_by (has t) views id v at in
    let never = (kept.once t).not_yet in
    elim (dec_lt t c) as (λ _. t < c) [ yes l ↦ l | no n ↦ absurd (omega (arith, never (omega arith))) ]

pub draw_allowed : (z : Size) (slots id : ℕ) (me : Me (Unit {0}) View) → me.0.spent ≡ false → live me.0 ≡ 1
    → Allows (IsDealt z) slots id me 0 (λ c. (c + 1) % 2 ^ 64) (Draws (step slots 0 1 0 none) me)
draw_allowed z slots id me unspent alive s r _ at _ =
    let c : ℕ = get_or s.words 0 0 in let kept = r.1 in let wide = r.0 in let v = me.0 in let w = after_draw v c in
    let small = counter_small z c s.views kept in
    let next : (c + 1) % 18446744073709551616 ≡ c + 1 = omega arith in
    let word : get_or (set s.words 0 ((c + 1) % 18446744073709551616)) 0 0 ≡ c + 1 =
    get_or-set_same s.words 0 ((c + 1) % 18446744073709551616) 0 (omega arith) ∙ next in
    let here : IsDealt z (stepped s 0 ((c + 1) % 18446744073709551616) id me.1 w keeps) = (
      length-set s.words 0 ((c + 1) % 18446744073709551616) ∙ wide,
      subst (λ (k : ℕ). IsKept z k (set s.views id w)) (sym word) (kept_after_draw z c id s.views kept v at unspent alive),
    ) in
    (w, keeps, tt, here, (refl, refl, λ _. tickets_below z c id s.views kept v at))

-- ---- the first seat

first_live : (role : Role) → first_role role ≡ 1 → live_role role ≡ 1
first_live Ended e = absurd (omega arith)
first_live (First made taken) e = refl
first_live (Other i) e = refl

no_made : (role : Role) → first_role role ≡ 0 → made_role role ≡ 0
no_made Ended e = refl
no_made (First made taken) e = absurd (omega arith)
no_made (Other i) e = refl

no_taken : (role : Role) → first_role role ≡ 0 → taken_role role ≡ 0
no_taken Ended e = refl
no_taken (First made taken) e = absurd (omega arith)
no_taken (Other i) e = refl

module _ (z : Size) (c id : ℕ) (views : List View) (kept : IsKept z c views) (v : View) (at : get_elem? views id ≡ some v) (is_first : first v ≡ 1) where
  no_other_first : (j : ℕ) (x : View) → j ≢ id → get_elem? views j ≡ some x → first x ≡ 0
  no_other_first j x ne e = let two = two_at-le-sum_by first views id j v x ne at e in let one = kept.one_first in omega arith

  -- the counts stand in the first view alone
  made_here : sum_by made views ≡ made v
  made_here = sum_by_alone made views id v at (λ j x ne e. no_made x.role (no_other_first j x ne e))

  taken_here : sum_by taken views ≡ taken v
  taken_here = sum_by_alone taken views id v at (λ j x ne e. no_taken x.role (no_other_first j x ne e))

-- ---- one more seat

pub split_allowed : (z : Size) (id n workers m : ℕ) → m < 64
    → Splits (IsDealt z) id (fresh n workers (First m 0)) (fresh n workers (First (m + 1) 0)) (fresh n workers (Other m))
split_allowed z id n workers m few s r at =
    let c : ℕ = get_or s.words 0 0 in let views = s.views in let kept = r.1 in
    let v = fresh n workers (First m 0) in let left = fresh n workers (First (m + 1) 0) in let right = fresh n workers (Other m) in
    let mid = set views id left in let made_is = made_here z c id views kept v at refl in
    let sums = sums_after_set views id v left at in let more = sums_after_push mid right in
    let b = kept.bounded in let counted = kept.counted in let one = kept.one_first in
    let same : n ≡ z.n = (kept.fit id v at).same refl in (
      r.0,
      record {
        once = λ t. let h = sums.has_is t in let h' = more.has_is t in
            let e : sum_by (has t) views ≡ sum_by (has t) (mid ++ right ∷ []) = omega arith in
            subst (IsDealtOnce z.n c t) e (kept.once t);
        bounded = omega arith;
        counted = omega arith;
        few = omega arith;
        one_first = omega arith;
        fit = each_snoc (Fits z.n c) mid right (record { same = λ _. same; bare = λ e. absurd (omega arith); late = λ e. absurd (omega arith) })
            (each_set (Fits z.n c) views id left (record { same = λ _. same; bare = λ e. absurd (omega arith); late = λ e. absurd (omega arith) }) kept.fit);
        small = kept.small;
      },
    )

-- ---- a seat taken in

-- the first role after one more seat was taken in
pub record TakesOne (old new : Role) : Type 0 where
  pub was_live : live_role old ≡ 1
  pub is_live : live_role new ≡ 1
  pub made : made_role new ≡ made_role old
  pub taken : taken_role new ≡ taken_role old + 1
  pub first : first_role new ≡ 1

pub more_taken-takes : (role : Role) → first_role role ≡ 1 → TakesOne role (more_taken role)
more_taken-takes Ended e = absurd (omega arith)
more_taken-takes (First made taken) e = record { was_live = refl; is_live = refl; made = refl; taken = refl; first = refl }
more_taken-takes (Other i) e = absurd (omega arith)

pub join_allowed : (z : Size) (id other : ℕ) (v w : View) → first v ≡ 1 → v.spent ≡ true → live w ≡ 1 → first w ≡ 0 → w.spent ≡ true
    → Joins (IsDealt z) id v other w (gathered v w) ended
join_allowed z id other v w is_first spent alive not_first spent' s r at ne at' =
    let c : ℕ = get_or s.words 0 0 in let views = s.views in let kept = r.1 in
    let both = gathered v w in let mid = set views id both in let old = kept.fit id v at in
    let roles = more_taken-takes v.role is_first in
    let late_v : late v ≡ live v = ap (λ b. late_role b v.role) spent in
    let late_both : late both ≡ live both = ap (λ b. late_role b both.role) spent in
    let late_w : late w ≡ live w = ap (λ b. late_role b w.role) spent' in
    let taken_w = no_taken w.role not_first in let made_w = no_made w.role not_first in
    let sums = sums_after_set views id v both at in let sums' = sums_after_set mid other w ended at' in
    let b = kept.bounded in let counted = kept.counted in let one = kept.one_first in let few = kept.few in (
      r.0,
      record {
        once = λ t. let h = sums.has_is t in let h' = sums'.has_is t in let app = times-append t v.tickets w.tickets in
            let e : sum_by (has t) views ≡ sum_by (has t) (set mid other ended) = omega arith in
            subst (IsDealtOnce z.n c t) e (kept.once t);
        bounded = omega arith;
        counted = omega arith;
        few = omega arith;
        one_first = omega arith;
        fit = each_set (Fits z.n c) mid other ended (record { same = λ e. absurd (omega arith); bare = λ _. refl; late = λ e. absurd (omega arith) })
            (each_set (Fits z.n c) views id both (record { same = λ e. old.same roles.was_live; bare = λ e. absurd (omega arith); late = λ e. old.late (omega arith) }) kept.fit);
        small = kept.small;
      },
    )

-- the first view, when each other seat is taken in, has each ticket
pub all_dealt : (z : Size) (id : ℕ) (v : View) (s : State (Unit {0}) View) → Seen (IsDealt z) id v s → first v ≡ 1 → v.spent ≡ true → made v ≡ taken v + 1
    → (t : ℕ) → (t < z.n → times t v.tickets ≡ 1) × (z.n ≤ t → times t v.tickets ≡ 0)
all_dealt z id v s r is_first spent all t =
    let c : ℕ = get_or s.words 0 0 in let views = s.views in let kept = r.0.1 in let at = r.1 in
    let made_is = made_here z c id views kept v at is_first in let taken_is = taken_here z c id views kept v at is_first in
    let counted = kept.counted in let alive = first_live v.role is_first in
    let late_v : late v ≡ live v = ap (λ b. late_role b v.role) spent in
    let past : z.n ≤ c = (kept.fit id v at).late (omega arith) in
    let others : (j : ℕ) (x : View) → j ≢ id → get_elem? views j ≡ some x → has t x ≡ 0 = λ j x ne e.
    let two = two_at-le-sum_by live views id j v x ne at e in
    ap (λ (y : View). times t y.tickets) ((kept.fit j x e).bare (omega arith)) in
    let here = sum_by_alone (has t) views id v at others in
    let once = (kept.once t).once in let none = (kept.once t).too_large in
    ((λ p. omega arith), λ p. omega arith)

-- ---- roles

pub role_at-live : (workers i : ℕ) → live_role (role_at workers i) ≡ 1
role_at-live workers zero = refl
role_at-live workers (suc i) = refl

pub other_not_first : (role : Role) (i : ℕ) → number_of role ≡ i + 1 → first_role role ≡ 0
other_not_first Ended i e = refl
other_not_first (First made taken) i e = absurd (omega arith)
other_not_first (Other j) i e = refl
