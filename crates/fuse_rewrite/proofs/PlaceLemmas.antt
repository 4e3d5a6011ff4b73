-- Steps, the lines that they come from, and the steps before them.
use Rattle.std.proofs.Common.{◌≡◌, ℕ, zero, suc, ◌+◌, ◌<◌, ◌≤◌, Bool, true, false, List, [], ◌∷◌, ◌++◌, length, get_or, take, inl, inr, ◌⊎◌, refl, sym, ap, ◌∙◌, subst, arith, Option, Some, None}
use Rattle.std.specs.Prelude.{slice_get, ◌==◌, if◌then◌else◌, All, AllPairs}
use Rattle.std.proofs.lemmas.Bool.{eq-eqb, or_left, or_right, cases_Bool, false≢true}
use Rattle.std.proofs.lemmas.Option.{none-some, same_Some}
use Rattle.std.proofs.lemmas.List.Elements.{All-nil, All-cons}
use Rattle.std.proofs.lemmas.List.Kept.{AllPairs-cons}
use Rattle.script_lang.specs.Syntax.{Binding, Skeleton, Statement, binds_input, binds_let, prints}
use Rattle.fuse_rewrite.specs.Uses.{Uses, uses_of}
use Rattle.fuse_rewrite.specs.Steps.{is_kept, last_of, chain_to, Kept, step_of, step_at, steps_from, has_step}

-- whatever lines of these are kept in front of this place, the first of which has number k, have one of these steps
abbrev pub HaveSteps : Uses → ℕ → List Statement → ℕ → List Kept → Type 0
HaveSteps us k ls place steps = (j : ℕ) (b : Binding) (t : Skeleton) → j < place → slice_get ls j ≡ Some (binds_let b t) → is_kept b t (uses_of (k + j) us) ≡ true → has_step steps (k + j) ≡ true

-- the line of step s of these lines, and the steps before it
pub record IsPlaced (lines : List Statement) (us : Uses) (k : ℕ) (ls : List Statement) (before : List Kept) (s : Kept) : Type 0 where
  pub place : ℕ
  pub bound : Binding
  pub skeleton : Skeleton
  pub line : s.line ≡ k + place
  pub at : slice_get ls place ≡ Some (binds_let bound skeleton)
  pub kept : is_kept bound skeleton (uses_of (k + place) us) ≡ true
  pub chain : s.chain ≡ chain_to (k + place) lines us (last_of skeleton.arguments)
  pub earlier : HaveSteps us k ls place before

-- ---- one line more

-- a step in front
has_more : (st : Kept) (steps : List Kept) (n : ℕ) → has_step steps n ≡ true → has_step (st ∷ steps) n ≡ true
has_more st steps n has = or_right (st.line == n) (has_step steps n) has

has_first : (st : Kept) (steps : List Kept) (n : ℕ) → st.line ≡ n → has_step (st ∷ steps) n ≡ true
has_first st steps n e = or_left (st.line == n) (has_step steps n) (eq-eqb st.line n e)

-- a line in front that has a step where it is kept
have_next : (us : Uses) (k : ℕ) (l : Statement) (ls : List Statement) (place : ℕ) (before steps : List Kept)
    → ((b : Binding) (t : Skeleton) → l ≡ binds_let b t → is_kept b t (uses_of k us) ≡ true → has_step steps k ≡ true)
    → ((n : ℕ) → has_step before n ≡ true → has_step steps n ≡ true)
    → HaveSteps us (k + 1) ls place before → HaveSteps us k (l ∷ ls) (suc place) steps
have_next us k l ls place before steps here still have zero b t lt at kept =
    let e : k + 0 ≡ k = omega arith in
    subst (λ (n : ℕ). has_step steps n ≡ true) (sym e) (here b t (same_Some l (binds_let b t) at) (subst (λ (n : ℕ). is_kept b t (uses_of n us) ≡ true) e kept))
have_next us k l ls place before steps here still have (suc j) b t lt at kept =
    let e : k + suc j ≡ (k + 1) + j = omega arith in
    subst (λ (n : ℕ). has_step steps n ≡ true) (sym e) (still ((k + 1) + j) (have j b t (omega arith) at (subst (λ (n : ℕ). is_kept b t (uses_of n us) ≡ true) e kept)))

placed_next : (lines : List Statement) (us : Uses) (k : ℕ) (l : Statement) (ls : List Statement) (before steps : List Kept) (s : Kept)
    → ((b : Binding) (t : Skeleton) → l ≡ binds_let b t → is_kept b t (uses_of k us) ≡ true → has_step steps k ≡ true)
    → ((n : ℕ) → has_step before n ≡ true → has_step steps n ≡ true)
    → IsPlaced lines us (k + 1) ls before s → IsPlaced lines us k (l ∷ ls) steps s
placed_next lines us k l ls before steps s here still p =
    let e : (k + 1) + p.place ≡ k + suc p.place = omega arith in
    record {
      place = suc p.place;
      bound = p.bound;
      skeleton = p.skeleton;
      line = p.line ∙ e;
      at = p.at;
      kept = subst (λ (n : ℕ). is_kept p.bound p.skeleton (uses_of n us) ≡ true) e p.kept;
      chain = p.chain ∙ ap (λ (n : ℕ). chain_to n lines us (last_of p.skeleton.arguments)) e;
      earlier = have_next us k l ls p.place before steps here still p.earlier;
    }

-- the step of the first line
placed_here : (lines : List Statement) (us : Uses) (k : ℕ) (b : Binding) (t : Skeleton) (ls : List Statement) (s : Kept)
    → is_kept b t (uses_of k us) ≡ true → step_of lines us k t ≡ s → IsPlaced lines us k (binds_let b t ∷ ls) [] s
placed_here lines us k b t ls s kept is =
    let e : k ≡ k + 0 = omega arith in
    record {
      place = 0;
      bound = b;
      skeleton = t;
      line = ap (λ (x : Kept). x.line) (sym is) ∙ e;
      at = refl;
      kept = subst (λ (n : ℕ). is_kept b t (uses_of n us) ≡ true) e kept;
      chain = ap (λ (x : Kept). x.chain) (sym is) ∙ ap (λ (n : ℕ). chain_to n lines us (last_of t.arguments)) e;
      earlier = λ j c u lt at is. absurd (omega arith);
    }

-- ---- all lines

none_here : (lines : List Statement) (us : Uses) (k : ℕ) (b : Binding) (t : Skeleton) (ls : List Statement) → is_kept b t (uses_of k us) ≡ false → steps_from lines us k (binds_let b t ∷ ls) ≡ steps_from lines us (k + 1) ls
unfolding steps_from
none_here lines us k b t ls apart = rw apart refl

one_here : (lines : List Statement) (us : Uses) (k : ℕ) (b : Binding) (t : Skeleton) (ls : List Statement) → is_kept b t (uses_of k us) ≡ true → steps_from lines us k (binds_let b t ∷ ls) ≡ step_of lines us k t ∷ steps_from lines us (k + 1) ls
unfolding steps_from
one_here lines us k b t ls kept = rw kept refl

not_input : (b c : Binding) (like : Option ℕ) (t : Skeleton) → binds_input b like ≡ binds_let c t → ⊥
not_input b c like t e = cc

not_print : (m : ℕ) (c : Binding) (t : Skeleton) → prints m ≡ binds_let c t → ⊥
not_print m c t e = cc

-- over the first line, which has a step
over_step : (lines : List Statement) (us : Uses) (k : ℕ) (l : Statement) (ls : List Statement) (st : Kept) (rest : List Kept) (i : ℕ) (s : Kept) → st.line ≡ k
    → IsPlaced lines us (k + 1) ls (take i rest) s → IsPlaced lines us k (l ∷ ls) (take (suc i) (st ∷ rest)) s
over_step lines us k l ls st rest i s e p =
    placed_next lines us k l ls (take i rest) (st ∷ take i rest) s (λ b t is kept. has_first st (take i rest) k e) (λ n has. has_more st (take i rest) n has) p

-- over the first line, which has none
over_none : (lines : List Statement) (us : Uses) (k : ℕ) (l : Statement) (ls : List Statement) (steps : List Kept) (s : Kept) → ((b : Binding) (t : Skeleton) → l ≡ binds_let b t → is_kept b t (uses_of k us) ≡ true → ⊥)
    → IsPlaced lines us (k + 1) ls steps s → IsPlaced lines us k (l ∷ ls) steps s
over_none lines us k l ls steps s none p = placed_next lines us k l ls steps steps s (λ b t is kept. absurd (none b t is kept)) (λ n has. has) p

-- at the first line, which has a step
with_step : (lines : List Statement) (us : Uses) (k : ℕ) (b : Binding) (t : Skeleton) (ls : List Statement) (i : ℕ) (s : Kept) → is_kept b t (uses_of k us) ≡ true
    → slice_get (steps_from lines us k (binds_let b t ∷ ls)) i ≡ Some s
    → ((j : ℕ) → slice_get (steps_from lines us (k + 1) ls) j ≡ Some s → IsPlaced lines us (k + 1) ls (take j (steps_from lines us (k + 1) ls)) s)
    → IsPlaced lines us k (binds_let b t ∷ ls) (take i (steps_from lines us k (binds_let b t ∷ ls))) s
with_step lines us k b t ls zero s kept at below =
    let first : Some (step_of lines us k t) ≡ Some s = sym (ap (λ (xs : List Kept). slice_get xs 0) (one_here lines us k b t ls kept)) ∙ at in
    placed_here lines us k b t ls s kept (same_Some (step_of lines us k t) s first)
with_step lines us k b t ls (suc i) s kept at below =
    let all = one_here lines us k b t ls kept in
    let rest : slice_get (steps_from lines us (k + 1) ls) i ≡ Some s = sym (ap (λ (xs : List Kept). slice_get xs (suc i)) all) ∙ at in
    subst (λ (xs : List Kept). IsPlaced lines us k (binds_let b t ∷ ls) (take (suc i) xs) s) (sym all)
    (over_step lines us k (binds_let b t) ls (step_of lines us k t) (steps_from lines us (k + 1) ls) i s refl (below i rest))

-- at the first line, which has none
without_step : (lines : List Statement) (us : Uses) (k : ℕ) (l : Statement) (ls : List Statement) (i : ℕ) (s : Kept) → steps_from lines us k (l ∷ ls) ≡ steps_from lines us (k + 1) ls
    → ((b : Binding) (t : Skeleton) → l ≡ binds_let b t → is_kept b t (uses_of k us) ≡ true → ⊥)
    → slice_get (steps_from lines us k (l ∷ ls)) i ≡ Some s
    → ((j : ℕ) → slice_get (steps_from lines us (k + 1) ls) j ≡ Some s → IsPlaced lines us (k + 1) ls (take j (steps_from lines us (k + 1) ls)) s)
    → IsPlaced lines us k (l ∷ ls) (take i (steps_from lines us k (l ∷ ls))) s
without_step lines us k l ls i s same none at below =
    let rest : slice_get (steps_from lines us (k + 1) ls) i ≡ Some s = sym (ap (λ (xs : List Kept). slice_get xs i) same) ∙ at in
    subst (λ (xs : List Kept). IsPlaced lines us k (l ∷ ls) (take i xs) s) (sym same) (over_none lines us k l ls (take i (steps_from lines us (k + 1) ls)) s none (below i rest))

at_input : (lines : List Statement) (us : Uses) (k : ℕ) (b : Binding) (like : Option ℕ) (ls : List Statement) → steps_from lines us k (binds_input b like ∷ ls) ≡ steps_from lines us (k + 1) ls
unfolding steps_from
at_input lines us k b like ls = refl

at_print : (lines : List Statement) (us : Uses) (k m : ℕ) (ls : List Statement) → steps_from lines us k (prints m ∷ ls) ≡ steps_from lines us (k + 1) ls
unfolding steps_from
at_print lines us k m ls = refl

at_end : (lines : List Statement) (us : Uses) (k : ℕ) → steps_from lines us k [] ≡ []
unfolding steps_from
at_end lines us k = refl

-- a let line that isn't kept has no step
not_kept : (us : Uses) (k : ℕ) (b : Binding) (t : Skeleton) → is_kept b t (uses_of k us) ≡ false → (c : Binding) (u : Skeleton) → binds_let b t ≡ binds_let c u → is_kept c u (uses_of k us) ≡ true → ⊥
not_kept us k b t apart c u same kept =
    let bound : b ≡ c = cc in
    let skeleton : t ≡ u = cc in
    false≢true (sym apart ∙ (ap (λ (x : Binding). is_kept x t (uses_of k us)) bound ∙ (ap (λ (x : Skeleton). is_kept c x (uses_of k us)) skeleton ∙ kept)))

-- each step has a line, and the steps before it those of the lines before that
pub step_placed : (lines : List Statement) (us : Uses) (k : ℕ) (ls : List Statement) (i : ℕ) (s : Kept) → slice_get (steps_from lines us k ls) i ≡ Some s
    → IsPlaced lines us k ls (take i (steps_from lines us k ls)) s
step_placed lines us k [] i s at = absurd (none-some s (sym (ap (λ (xs : List Kept). slice_get xs i) (at_end lines us k)) ∙ at))
step_placed lines us k (binds_input b like ∷ ls) i s at =
    without_step lines us k (binds_input b like) ls i s (at_input lines us k b like ls) (λ c t e kept. not_input b c like t e) at (λ j here. step_placed lines us (k + 1) ls j s here)
step_placed lines us k (prints m ∷ ls) i s at =
    without_step lines us k (prints m) ls i s (at_print lines us k m ls) (λ c t e kept. not_print m c t e) at (λ j here. step_placed lines us (k + 1) ls j s here)
step_placed lines us k (binds_let b t ∷ ls) i s at = elim (cases_Bool (is_kept b t (uses_of k us))) [
  | inl kept ↦ with_step lines us k b t ls i s kept at (λ j here. step_placed lines us (k + 1) ls j s here)
  | inr apart ↦ without_step lines us k (binds_let b t) ls i s (none_here lines us k b t ls apart) (not_kept us k b t apart) at (λ j here. step_placed lines us (k + 1) ls j s here)
]

-- ---- the order of steps

-- the lines of steps rise from this number on
abbrev Rise : ℕ → List Kept → Type 0
Rise k steps = All (λ s. k ≤ s.line) steps × AllPairs (λ r s. r.line < s.line) steps

lower : (k : ℕ) (steps : List Kept) → Rise (k + 1) steps → Rise k steps
lower k steps rise = (λ i d lt. let le = rise.0 i d lt in omega arith, rise.1)

longer : (k : ℕ) (st : Kept) (steps : List Kept) → st.line ≡ k → Rise (k + 1) steps → Rise k (st ∷ steps)
longer k st steps e rise = (
  All-cons (λ (s : Kept). k ≤ s.line) st steps (omega arith) (λ i d lt. let le = rise.0 i d lt in omega arith),
  AllPairs-cons (λ (r s : Kept). r.line < s.line) st steps (λ i d lt. let le = rise.0 i d lt in omega arith) rise.1,
)

none_rise : (k : ℕ) → Rise k []
none_rise k = (All-nil (λ (s : Kept). k ≤ s.line), λ i j d lt within. absurd (omega arith))

pub steps_rise : (lines : List Statement) (us : Uses) (k : ℕ) (ls : List Statement) → Rise k (steps_from lines us k ls)
steps_rise lines us k [] = subst (λ (xs : List Kept). Rise k xs) (sym (at_end lines us k)) (none_rise k)
steps_rise lines us k (binds_input b like ∷ ls) = subst (λ (xs : List Kept). Rise k xs) (sym (at_input lines us k b like ls)) (lower k (steps_from lines us (k + 1) ls) (steps_rise lines us (k + 1) ls))
steps_rise lines us k (prints m ∷ ls) = subst (λ (xs : List Kept). Rise k xs) (sym (at_print lines us k m ls)) (lower k (steps_from lines us (k + 1) ls) (steps_rise lines us (k + 1) ls))
steps_rise lines us k (binds_let b t ∷ ls) = elim (cases_Bool (is_kept b t (uses_of k us))) [
  | inl kept ↦ subst (λ (xs : List Kept). Rise k xs) (sym (one_here lines us k b t ls kept)) (longer k (step_of lines us k t) (steps_from lines us (k + 1) ls) refl (steps_rise lines us (k + 1) ls))
  | inr apart ↦ subst (λ (xs : List Kept). Rise k xs) (sym (none_here lines us k b t ls apart)) (lower k (steps_from lines us (k + 1) ls) (steps_rise lines us (k + 1) ls))
]

pub in_order : (lines : List Statement) (us : Uses) (k : ℕ) (ls : List Statement) → AllPairs (λ r s. r.line < s.line) (steps_from lines us k ls)
in_order lines us k ls = (steps_rise lines us k ls).1

-- ---- every kept line

-- a step of a later line is there
has_later : (lines : List Statement) (us : Uses) (k : ℕ) (l : Statement) (ls : List Statement) (n : ℕ) → has_step (steps_from lines us (k + 1) ls) n ≡ true → has_step (steps_from lines us k (l ∷ ls)) n ≡ true
has_later lines us k (binds_input b like) ls n has = subst (λ (xs : List Kept). has_step xs n ≡ true) (sym (at_input lines us k b like ls)) has
has_later lines us k (prints m) ls n has = subst (λ (xs : List Kept). has_step xs n ≡ true) (sym (at_print lines us k m ls)) has
has_later lines us k (binds_let b t) ls n has = elim (cases_Bool (is_kept b t (uses_of k us))) [
  | inl kept ↦ subst (λ (xs : List Kept). has_step xs n ≡ true) (sym (one_here lines us k b t ls kept)) (has_more (step_of lines us k t) (steps_from lines us (k + 1) ls) n has)
  | inr apart ↦ subst (λ (xs : List Kept). has_step xs n ≡ true) (sym (none_here lines us k b t ls apart)) has
]

-- a kept line has a step
pub has_kept : (lines : List Statement) (us : Uses) (k : ℕ) (ls : List Statement) (j : ℕ) (b : Binding) (t : Skeleton) → slice_get ls j ≡ Some (binds_let b t) → is_kept b t (uses_of (k + j) us) ≡ true → has_step (steps_from lines us k ls) (k + j) ≡ true
has_kept lines us k [] j b t at kept = absurd (none-some (binds_let b t) at)
has_kept lines us k (l ∷ ls) zero b t at kept =
    let e : k + 0 ≡ k = omega arith in
    let here : is_kept b t (uses_of k us) ≡ true = subst (λ (n : ℕ). is_kept b t (uses_of n us) ≡ true) e kept in
    let has : has_step (steps_from lines us k (binds_let b t ∷ ls)) (k + 0) ≡ true =
    subst (λ (xs : List Kept). has_step xs (k + 0) ≡ true) (sym (one_here lines us k b t ls here)) (has_first (step_of lines us k t) (steps_from lines us (k + 1) ls) (k + 0) (sym e)) in
    subst (λ (x : Statement). has_step (steps_from lines us k (x ∷ ls)) (k + 0) ≡ true) (sym (same_Some l (binds_let b t) at)) has
has_kept lines us k (l ∷ ls) (suc j) b t at kept =
    let e : (k + 1) + j ≡ k + suc j = omega arith in
    has_later lines us k l ls (k + suc j) (subst (λ (n : ℕ). has_step (steps_from lines us (k + 1) ls) n ≡ true) e (has_kept lines us (k + 1) ls j b t at (subst (λ (n : ℕ). is_kept b t (uses_of n us) ≡ true) (sym e) kept)))
