-- What a table still holds after a step, and after what isn't needed any more is dropped.
use Rattle.std.proofs.Common.{◌≡◌, ◌⊎◌, inl, inr, ℕ, zero, suc, ◌+◌, ◌<◌, Bool, true, false, List, [], ◌∷◌, ◌++◌, length, get_or, take, drop, add-one, drop-cons, Some, None, refl, sym, ap, ◌∙◌, arith}
use Rattle.std.specs.Prelude.{slice_get, slice_set, ◌==◌, ◌||◌, if◌then◌else◌}
use Rattle.std.specs.List.{list_any}
use Rattle.std.proofs.lemmas.Bool.{or_left, or_right, or_cases}
use Rattle.std.proofs.lemmas.Bool.Decides.{eqb_tells}
use Rattle.std.proofs.lemmas.List.{length-set, take_more}
use Rattle.std.proofs.lemmas.Option.{gets, slice_get_read}
use Rattle.std.proofs.lemmas.Grind.{common_steps}
use Rattle.data_text.specs.declared.value.Value.{Value}
use Rattle.script_lang.specs.Syntax.{Statement}
use Rattle.script_lang.specs.Steps.{prints_line}
use Rattle.fuse_rewrite.specs.Steps.{Kept}
use Rattle.fuse_rewrite.specs.Chains.{IsKeptLine}
use Rattle.fuse_rewrite.specs.Meaning.{Values}
use Rattle.script_run.specs.Needs.{takes_line, is_needed, AreHeld, dropped, all_dropped}

-- ---- one step more

any_more : (p : Kept → Bool) (before : List Kept) (s : Kept) → p s ≡ false → list_any p (before ++ s ∷ []) ≡ list_any p before
any_more p [] s e = rw e refl
any_more p (x ∷ xs) s e = rw (any_more p xs s e) refl

-- a kept line of one step more is that step's, or was kept
kept_more : (lines : List Statement) (before : List Kept) (s : Kept) (n : ℕ) → IsKeptLine lines (before ++ s ∷ []) n → (n ≡ s.line) ⊎ IsKeptLine lines before n
kept_more lines before s n (inl i) = inr (inl i)
kept_more lines before s n (inr i) = elim (eqb_tells s.line n) [
  | inl p ↦ inl (sym p.1)
  | inr p ↦ inr (inr (i.0, i.1, i.2, sym (any_more (λ (k : Kept). k.line == n) before s p.0) ∙ i.3))
]

get-set_same : {X : Type 0} (xs : List X) (i : ℕ) (x : X) → i < length xs → slice_get (slice_set xs i x) i ≡ Some x
get-set_same xs i x lt = grind (arith, common_steps, gets)

get-set_other : {X : Type 0} (xs : List X) (i n : ℕ) (x : X) → (n ≡ i → ⊥) → slice_get (slice_set xs i x) n ≡ slice_get xs n
get-set_other [] i n x apart = refl
get-set_other (y ∷ xs) zero zero x apart = absurd (apart refl)
get-set_other (y ∷ xs) zero (suc n) x apart = refl
get-set_other (y ∷ xs) (suc i) zero x apart = refl
get-set_other (y ∷ xs) (suc i) (suc n) x apart = get-set_other xs i n x (λ e. apart (ap suc e))

-- what the steps after this one need is needed before it
needed_before : (lines : List Statement) (s : Kept) (to_come : List Kept) (n : ℕ) → is_needed lines to_come n ≡ true → is_needed lines (s ∷ to_come) n ≡ true
needed_before lines s to_come n e = elim (or_cases (list_any (prints_line n) lines) (list_any (takes_line lines n) to_come) e) [
  | inl p ↦ or_left (list_any (prints_line n) lines) (takes_line lines n s || list_any (takes_line lines n) to_come) p
  | inr p ↦ or_right (list_any (prints_line n) lines) (takes_line lines n s || list_any (takes_line lines n) to_come) (or_right (takes_line lines n s) (list_any (takes_line lines n) to_come) p)
]

-- what a step makes is held with what was
pub held_more : (lines : List Statement) (done : List Kept) (s : Kept) (to_come : List Kept) (values table : Values) (v : Value) → AreHeld lines done (s ∷ to_come) values table → s.line < length table
    → slice_get values s.line ≡ Some (Some v) → AreHeld lines (done ++ s ∷ []) to_come values (slice_set table s.line (Some v))
held_more lines done s to_come values table v held lt is n kept needed = elim (eqb_tells n s.line) [
  | inl p ↦ here n p.1
  | inr p ↦ other n p.1 (kept_more lines done s n kept) needed
]
  where
    here : (n : ℕ) → n ≡ s.line → slice_get (slice_set table s.line (Some v)) n ≡ slice_get values n
    here n e = rw e (get-set_same table s.line (Some v) lt ∙ sym is)

    other : (n : ℕ) → (n ≡ s.line → ⊥) → (n ≡ s.line) ⊎ IsKeptLine lines done n → is_needed lines to_come n ≡ true → slice_get (slice_set table s.line (Some v)) n ≡ slice_get values n
    other n apart (inl e) needed = absurd (apart e)
    other n apart (inr k) needed = get-set_other table s.line n (Some v) apart ∙ held n k (needed_before lines s to_come n needed)

-- ---- what isn't needed is dropped

drops_other : (lines : List Statement) (steps : List Kept) (n m : ℕ) (table : Values) → is_needed lines steps m ≡ true → slice_get (dropped lines steps n table) m ≡ slice_get table m
drops_other lines steps n m table needed = at_case (is_needed lines steps n) refl
  where
    at_case : (b : Bool) → is_needed lines steps n ≡ b → slice_get (if b then table else slice_set table n None) m ≡ slice_get table m
    at_case true e = refl
    at_case false e = get-set_other table n m None (λ (same : m ≡ n). let other : is_needed lines steps m ≡ false = rw same e in cc)

pub drops_others : (lines : List Statement) (steps : List Kept) (ns : List ℕ) (m : ℕ) (table : Values) → is_needed lines steps m ≡ true → slice_get (all_dropped lines steps ns table) m ≡ slice_get table m
drops_others lines steps [] m table needed = refl
drops_others lines steps (n ∷ ns) m table needed = drops_others lines steps ns m (dropped lines steps n table) needed ∙ drops_other lines steps n m table needed

pub held_still : (lines : List Statement) (done to_come : List Kept) (ns : List ℕ) (values table : Values) → AreHeld lines done to_come values table → AreHeld lines done to_come values (all_dropped lines to_come ns table)
held_still lines done to_come ns values table held n kept needed = drops_others lines to_come ns n table needed ∙ held n kept needed

dropped_long : (lines : List Statement) (steps : List Kept) (n : ℕ) (table : Values) → length (dropped lines steps n table) ≡ length table
dropped_long lines steps n table = at_case (is_needed lines steps n)
  where
    at_case : (b : Bool) → length (if b then table else slice_set table n None) ≡ length table
    at_case true = refl
    at_case false = length-set table n None

pub drops_long : (lines : List Statement) (steps : List Kept) (ns : List ℕ) (table : Values) → length (all_dropped lines steps ns table) ≡ length table
drops_long lines steps [] table = refl
drops_long lines steps (n ∷ ns) table = drops_long lines steps ns (dropped lines steps n table) ∙ dropped_long lines steps n table

-- ---- steps one after another

-- the step of this number is the first of those to come, and then the last of those that are done
pub record IsNext (steps : List Kept) (i : ℕ) (s : Kept) : Type 0 where
  pub at : slice_get steps i ≡ Some s
  pub first : drop i steps ≡ s ∷ drop (i + 1) steps
  pub last : take (i + 1) steps ≡ take i steps ++ s ∷ []

pub is_next : (steps : List Kept) (i : ℕ) (s : Kept) → i < length steps → s ≡ get_or steps i s → IsNext steps i s
is_next steps i s lt is =
    let rest : drop i steps ≡ get_or steps i s ∷ drop (suc i) steps = drop-cons steps i s lt in
    record {
      at = slice_get_read steps (length steps) i s refl lt is;
      first = rw (add-one, rest, ← is) refl;
      last = take_more steps i s lt ∙ ap (λ (k : Kept). take i steps ++ k ∷ []) (sym is);
    }
