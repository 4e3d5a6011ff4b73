-- What a script and data in their forms have in common.
use Rattle.std.proofs.Common.{◌≡◌, ◌≢◌, ℕ, ◌≤◌, true, inl, inr, List, length, take, Option, Some, None, IfSome, Result, Ok, Err, IfOk, ap, refl, sym, ◌∙◌, arith}
use Rattle.std.specs.Prelude.{nat_lt}
use Rattle.std.proofs.lemmas.Bool.{cases_lt}
use Rattle.std.proofs.lemmas.Bool.Decides.{nat_tests}
use Rattle.std.proofs.lemmas.List.{length-take-le, take_all}
use Rattle.script_lang.specs.declared.fault.ScriptFault.{ScriptFault}
use Rattle.script_lang.specs.declared.fault.ScriptFault.TheVariants as script_fault
use Rattle.script_lang.specs.Syntax.{Statement}
use Rattle.script_lang.specs.Script.{script, FailsIn}
use Rattle.data_text.specs.declared.value.Named.{Named}
use Rattle.data_text.specs.declared.data_fault.DataFault.{DataFault}
use Rattle.data_text.specs.declared.data_fault.DataFault.TheVariants as data_fault
use Rattle.data_text.specs.Data.{Section, sections_of}
use Rattle.fuse_rewrite.specs.Meaning.{script_meaning}
use Rattle.script_run.specs.Fit.{fit_of, over_lists}
use Rattle.sketo_run.specs.Answer.{if_fit, fitting, faulty, IsAnswer, IsRefused}
use Rattle.sketo_run.specs.declared.stop.Stop.{Stop}
use Rattle.sketo_run.specs.Stops.{stop_of_script, stop_of_data}
use Rattle.sketo_run.specs.Causes.{IsRefusalOf, IsCauseOf}

-- of two contents that may be told
pub both : (o p : Option (List ℕ)) (A B : List ℕ → Type 0) (P : List ℕ → List ℕ → Type 0) → IfSome o A → IfSome p B → ((s d : List ℕ) → A s → B d → P s d) → IfSome o (λ s. IfSome p (λ d. P s d))
both None p A B P a b f = tt
both (Some s) None A B P a b f = tt
both (Some s) (Some d) A B P a b f = f s d a b

-- of the first of two
pub first : (o p : Option (List ℕ)) (A : List ℕ → Type 0) (P : List ℕ → List ℕ → Type 0) → IfSome o A → ((s d : List ℕ) → A s → P s d) → IfSome o (λ s. IfSome p (λ d. P s d))
first None p A P a f = tt
first (Some s) None A P a f = tt
first (Some s) (Some d) A P a f = f s d a

-- of one
pub one : (o : Option (List ℕ)) (A P : List ℕ → Type 0) → IfSome o A → ((s : List ℕ) → A s → P s) → IfSome o P
one None A P a f = tt
one (Some s) A P a f = f s a

-- the front of a script is read as the script is
long_front : (s : List ℕ) → 65537 ≤ length s → script (take 65537 s) ≡ script s
unfolding script
long_front s le =
    let len : length (take 65537 s) ≡ 65537 = length-take-le 65537 s le in
    let front_long : nat_lt 65536 (length (take 65537 s)) ≡ true = rw len refl in
    let long : nat_lt 65536 (length s) ≡ true = grind (arith, nat_tests) in
    rw (front_long, long) refl

pub script_front : (s bytes : List ℕ) → bytes ≡ take 65537 s → script bytes ≡ script s
script_front s bytes e = elim (cases_lt 65537 (length s)) [ inl lt ↦ ap script e ∙ long_front s (omega arith) | inr le ↦ ap script (e ∙ take_all 65537 s le) ]

-- the script that the front of a file is
pub accepted : (o : Option (List ℕ)) (bytes text : List ℕ) (lines : List Statement) → bytes ≡ text → IfSome o (λ s. text ≡ take 65537 s) → script bytes ≡ Ok lines → IfSome o (λ s. script s ≡ Ok lines)
accepted o bytes text lines same told e = one o (λ s. text ≡ take 65537 s) (λ s. script s ≡ Ok lines) told (λ s t. sym (script_front s bytes (same ∙ t)) ∙ e)

refuses : (s bytes : List ℕ) (f : ScriptFault) → bytes ≡ take 65537 s → FailsIn f (script bytes) → IsRefusalOf (stop_of_script f) s
refuses s bytes script_fault.Memory e h = tt
refuses s bytes script_fault.Long e h = sym (script_front s bytes e) ∙ h
refuses s bytes (script_fault.At line column what) e h = sym (script_front s bytes e) ∙ h

-- why the front of a file is none
pub refused_script : (o : Option (List ℕ)) (bytes text : List ℕ) (f : ScriptFault) → bytes ≡ text → IfSome o (λ s. text ≡ take 65537 s) → FailsIn f (script bytes) → IfSome o (IsRefusalOf (stop_of_script f))
refused_script o bytes text f same told h = one o (λ s. text ≡ take 65537 s) (IsRefusalOf (stop_of_script f)) told (λ s t. refuses s bytes f (same ∙ t) h)

-- the values that a script has of the sections that were read
pub made : (r : Result (List Named) Stop) (o p : Option (List ℕ)) (lines : List Statement) (sections : List Section) → IfSome o (λ s. script s ≡ Ok lines) → over_lists lines ≡ true
    → IfSome p (λ d. sections_of d ≡ Ok sections) → IfOk r (λ x. fit_of lines sections ≡ Ok tt) → IfOk r (λ a. a ≡ script_meaning sections lines)
    → IfOk r (λ a. IfSome o (λ s. IfSome p (λ d. IsAnswer s d a)))
made (Err e) o p lines sections accepted lists read fits values = tt
made (Ok a) o p lines sections accepted lists read fits values =
    both o p (λ s. script s ≡ Ok lines) (λ d. sections_of d ≡ Ok sections) (λ s d. IsAnswer s d a) accepted read
    (λ s d same e. record { lines = lines; sections = sections; accepted = same; lists = lists; fits = ap (fitting lines) e ∙ ap (λ f. if_fit f sections) fits; values = values })

-- the first fault of data
abbrev FirstFault : DataFault → List ℕ → Type 0
FirstFault fault bytes = fault ≢ data_fault.Read → fault ≢ data_fault.Memory → sections_of bytes ≡ Err fault

refused_by : (fault : DataFault) (lines : List Statement) (s d : List ℕ) → script s ≡ Ok lines → over_lists lines ≡ true → sections_of d ≡ Err fault → IsRefused s d lines (faulty fault)
refused_by fault lines s d accepted lists e = record { accepted = accepted; lists = lists; unfits = ap (fitting lines) e }

caused_by : (fault : DataFault) (lines : List Statement) (s d : List ℕ) → script s ≡ Ok lines → over_lists lines ≡ true → FirstFault fault d → IsCauseOf (stop_of_data fault) s d
caused_by data_fault.Read lines s d a l f = tt
caused_by data_fault.Memory lines s d a l f = tt
caused_by (data_fault.BadWord at) lines s d a l f = (lines, refused_by (data_fault.BadWord at) lines s d a l (f (λ e. cc) (λ e. cc)))
caused_by (data_fault.BadNumber at) lines s d a l f = (lines, refused_by (data_fault.BadNumber at) lines s d a l (f (λ e. cc) (λ e. cc)))
caused_by (data_fault.LongWord at) lines s d a l f = (lines, refused_by (data_fault.LongWord at) lines s d a l (f (λ e. cc) (λ e. cc)))
caused_by (data_fault.LongGap at) lines s d a l f = (lines, refused_by (data_fault.LongGap at) lines s d a l (f (λ e. cc) (λ e. cc)))
caused_by (data_fault.BadKind at) lines s d a l f = (lines, refused_by (data_fault.BadKind at) lines s d a l (f (λ e. cc) (λ e. cc)))
caused_by (data_fault.TooMany at) lines s d a l f = (lines, refused_by (data_fault.TooMany at) lines s d a l (f (λ e. cc) (λ e. cc)))
caused_by (data_fault.Short at) lines s d a l f = (lines, refused_by (data_fault.Short at) lines s d a l (f (λ e. cc) (λ e. cc)))
caused_by (data_fault.Shape at) lines s d a l f = (lines, refused_by (data_fault.Shape at) lines s d a l (f (λ e. cc) (λ e. cc)))
caused_by (data_fault.Duplicate at) lines s d a l f = (lines, refused_by (data_fault.Duplicate at) lines s d a l (f (λ e. cc) (λ e. cc)))
caused_by (data_fault.TooManySections at) lines s d a l f = (lines, refused_by (data_fault.TooManySections at) lines s d a l (f (λ e. cc) (λ e. cc)))

-- why data is refused
pub refused_data : (o p : Option (List ℕ)) (lines : List Statement) (fault : DataFault) → IfSome o (λ s. script s ≡ Ok lines) → over_lists lines ≡ true → IfSome p (FirstFault fault)
    → IfSome o (λ s. IfSome p (λ d. IsCauseOf (stop_of_data fault) s d))
refused_data o p lines fault accepted lists first = both o p (λ s. script s ≡ Ok lines) (FirstFault fault) (IsCauseOf (stop_of_data fault)) accepted first (λ s d a f. caused_by fault lines s d a lists f)
