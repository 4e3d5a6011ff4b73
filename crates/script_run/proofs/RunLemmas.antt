-- What stands in the table when a script is run, before its first step and after its last one.
use Rattle.std.proofs.Common.{◌≡◌, ℕ, zero, suc, Bool, true, false, List, [], ◌∷◌, map, Ok, Some, refl, sym, ap, subst, inl, inr}
use Rattle.std.specs.Prelude.{slice_get}
use Rattle.std.specs.List.{flat_map, list_any}
use Rattle.std.proofs.lemmas.Bool.{eq-eqb, or_left, or_right}
use Rattle.data_text.specs.Data.{Section}
use Rattle.script_lang.specs.declared.line.Line.{Line}
use Rattle.script_lang.specs.Syntax.{Statement, binds_input, binds_let, prints}
use Rattle.script_lang.specs.Steps.{prints_line}
use Rattle.script_lang.specs.Views.{statement_of}
use Rattle.script_lang.specs.Sound.{binding_at, IsTypedScript}
use Rattle.fuse_rewrite.specs.Steps.{Kept, steps_of}
use Rattle.fuse_rewrite.specs.Chains.{IsPrintable, EachPrintIsKept}
use Rattle.fuse_rewrite.specs.Meaning.{Values, values_of_script, named_by, printed_by, script_meaning}
use Rattle.script_run.specs.Fit.{fit_of, over_lists}
use Rattle.script_run.specs.Fits.{FitsLists}
use Rattle.script_run.specs.Runs.{AreInputsHeld}
use Rattle.script_run.specs.Needs.{is_needed, AreHeld, Holds}
use Rattle.script_run.proofs.FitsLemmas.{fits_lists}

-- ---- before the first step

inputs_held : (lines : List Statement) (plan : List Kept) (values table : Values) → AreInputsHeld lines values table → AreHeld lines [] plan values table
inputs_held lines plan values table held n (inl i) needed = held n i
inputs_held lines plan values table held n (inr i) needed = cc

-- data that fits a script over lists
pub record IsGiven (lines : List Statement) (sections : List Section) : Type 0 where
  pub typed : IsTypedScript lines
  pub fits : fit_of lines sections ≡ Ok tt
  pub lists : over_lists lines ≡ true

pub fits_given : (lines : List Statement) (sections : List Section) → IsGiven lines sections → FitsLists lines sections
fits_given lines sections given = fits_lists lines sections given.fits given.lists

pub first_holds : (lines : List Statement) (plan : List Kept) (sections : List Section) (table items : Values) → IsGiven lines sections → table ≡ items → AreInputsHeld lines (values_of_script sections lines) items
    → Holds lines [] plan sections table
first_holds lines plan sections table items given same held = record { fits = fits_given lines sections given; held = rw same (inputs_held lines plan (values_of_script sections lines) items held) }

-- ---- after the last one

-- one list from each element of a list, by two functions that agree on them
flat-same : {X Y : Type 0} (f g : X → List Y) (xs : List X) → ((i : ℕ) (x : X) → slice_get xs i ≡ Some x → f x ≡ g x) → flat_map f xs ≡ flat_map g xs
flat-same f g [] same = refl
flat-same f g (x ∷ xs) same = rw (same 0 x refl, flat-same f g xs (λ (i : ℕ) (y : _) (at : slice_get xs i ≡ Some y). same (suc i) y at)) refl

any_at : {X : Type 0} (p : X → Bool) (xs : List X) (i : ℕ) (x : X) → slice_get xs i ≡ Some x → p x ≡ true → list_any p xs ≡ true
any_at p [] i x at e = cc
any_at p (y ∷ ys) zero x at e = let same : y ≡ x = cc in or_left (p y) (list_any p ys) (rw same e)
any_at p (y ∷ ys) (suc i) x at e = or_right (p y) (list_any p ys) (any_at p ys i x at e)

printed_needed : (lines : List Statement) (i n : ℕ) → slice_get lines i ≡ Some (prints n) → is_needed lines [] n ≡ true
printed_needed lines i n at = or_left (list_any (prints_line n) lines) false (any_at (prints_line n) lines i (prints n) at (eq-eqb n n refl))

line_same : (lines : List Statement) (plan : List Kept) (values table : Values) → IsPrintable lines plan → AreHeld lines plan [] values table
    → (i : ℕ) (l : Statement) → slice_get lines i ≡ Some l → printed_by lines table l ≡ printed_by lines values l
line_same lines plan values table printable held i (binds_input b like) at = refl
line_same lines plan values table printable held i (binds_let b s) at = refl
line_same lines plan values table printable held i (prints n) at = ap (λ (v : _). named_by (binding_at lines n) v) (held n (printable i n at).1 (printed_needed lines i n at))

-- what the table prints is what the script means
pub prints_meaning : (ls : List Line) (plan : List Kept) (sections : List Section) (table : Values) → EachPrintIsKept → IsGiven (map statement_of ls) sections → plan ≡ steps_of (map statement_of ls)
    → Holds (map statement_of ls) plan [] sections table → flat_map (printed_by (map statement_of ls) table) (map statement_of ls) ≡ script_meaning sections (map statement_of ls)
prints_meaning ls plan sections table kept given is holds =
    let lines = map statement_of ls in
    let values = values_of_script sections lines in
    let printable : IsPrintable lines plan = subst (IsPrintable lines) (sym is) (kept ls given.typed) in
    flat-same (printed_by lines table) (printed_by lines values) lines (line_same lines plan values table printable holds.held)
