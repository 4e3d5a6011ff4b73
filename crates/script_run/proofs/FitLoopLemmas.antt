-- Turns of the loop over a script's lines.
use Rattle.std.proofs.Common.{◌≡◌, ◌∙◌, ℕ, suc, ◌+◌, ◌<◌, ◌≤◌, List, ◌∷◌, length, map, get_or, drop, Option, Some, None, Ok, Err, ap, refl, sym, arith, add-one, drop-cons}
use Rattle.std.specs.Prelude.{slice_get, option_and_then}
use Rattle.std.specs.Result.{IsErrAnd}
use Rattle.std.proofs.lemmas.List.{drop_all, length-map}
use Rattle.std.proofs.lemmas.Option.{slice_get_within, slice_get_past, get_or_from_slice_get}
use Rattle.data_text.specs.Data.{Content, Section}
use Rattle.script_lang.specs.declared.line.Line.{Line}
use Rattle.script_lang.specs.Syntax.{Statement, binds_input, binds_let, prints}
use Rattle.script_lang.specs.Steps.{bound_by}
use Rattle.script_lang.specs.Views.{statement_of}
use Rattle.script_run.specs.declared.fitting.FitFault.{FitFault}
use Rattle.script_run.specs.Fit.{content_for, content_at, Fit, line_fit, inputs_after, unless_fault, fit_from}
use Rattle.script_run.proofs.LineLemmas.{line_is}

rest_is : (ls : List Statement) (n : ℕ) (l : Statement) → slice_get ls n ≡ Some l → drop n ls ≡ l ∷ drop (n + 1) ls
rest_is ls n l at =
    let cons : drop n ls ≡ get_or ls n l ∷ drop (suc n) ls = drop-cons ls n l (slice_get_within ls n l at) in
    rw (add-one, cons, get_or_from_slice_get ls n l l at) refl

line_first : (lines : List Statement) (sections : List Section) (i n : ℕ) (l : Statement) → slice_get lines n ≡ Some l
    → fit_from lines sections i (drop n lines) ≡ unless_fault (line_fit lines sections i l) (fit_from lines sections (inputs_after i l) (drop (n + 1) lines))
line_first lines sections i n l at = ap (λ (ls : List Statement). fit_from lines sections i ls) (rest_is lines n l at)

-- a line fits
pub fit_goes_on : (ls : List Line) (sections : List Section) (i j n : ℕ) (l : Line) (whole : Fit) → n < length ls → l ≡ get_or ls n l
    → Ok tt ≡ line_fit (map statement_of ls) sections i (statement_of l) → j ≡ inputs_after i (statement_of l)
    → fit_from (map statement_of ls) sections i (drop n (map statement_of ls)) ≡ whole → fit_from (map statement_of ls) sections j (drop (n + 1) (map statement_of ls)) ≡ whole
fit_goes_on ls sections i j n l whole lt is fits count so =
    let lines : List Statement = map statement_of ls in
    ap (λ (k : ℕ). fit_from lines sections k (drop (n + 1) lines)) count
    ∙ (ap (λ (f : Fit). unless_fault f (fit_from lines sections (inputs_after i (statement_of l)) (drop (n + 1) lines))) fits
    ∙ (sym (line_first lines sections i n (statement_of l) (line_is ls n l lt is)) ∙ so))

-- a line doesn't fit
pub fit_stops : (ls : List Line) (sections : List Section) (i n : ℕ) (l : Line) (e : FitFault) (whole : Fit) → n < length ls → l ≡ get_or ls n l
    → Err e ≡ line_fit (map statement_of ls) sections i (statement_of l)
    → fit_from (map statement_of ls) sections i (drop n (map statement_of ls)) ≡ whole → Err e ≡ whole
fit_stops ls sections i n l e whole lt is fault so =
    let lines : List Statement = map statement_of ls in
    ap (λ (f : Fit). unless_fault f (fit_from lines sections (inputs_after i (statement_of l)) (drop (n + 1) lines))) fault
    ∙ (sym (line_first lines sections i n (statement_of l) (line_is ls n l lt is)) ∙ so)

-- the fault that was passed on
pub fit_stopped : (r : Fit) (e : FitFault) (whole : Fit) → IsErrAnd r (λ f. f ≡ e) → Err e ≡ whole → r ≡ whole
fit_stopped (Ok x) e whole same is = absurd same
fit_stopped (Err f) e whole same is = ap (λ (g : FitFault). Err g) same ∙ is

-- a line is one input at most
pub inputs_more : (i : ℕ) (l : Statement) → inputs_after i l ≤ i + 1
inputs_more i (binds_input b like) = omega arith
inputs_more i (binds_let b s) = omega arith
inputs_more i (prints n) = omega arith

-- after the last line
pub fit_ends : (ls : List Line) (sections : List Section) (i n : ℕ) (whole : Fit) → length ls ≤ n
    → fit_from (map statement_of ls) sections i (drop n (map statement_of ls)) ≡ whole → Ok tt ≡ whole
fit_ends ls sections i n whole le so =
    let lines : List Statement = map statement_of ls in
    let count : length lines ≡ length ls = length-map ls statement_of in
    sym (ap (λ (rest : List Statement). fit_from lines sections i rest) (drop_all n lines (omega arith))) ∙ so

-- ---- the line of a number

pub content_past : (ls : List Line) (sections : List Section) (n : ℕ) → length ls ≤ n → None ≡ content_at (map statement_of ls) sections n
content_past ls sections n le =
    let count : length (map statement_of ls) ≡ length ls = length-map ls statement_of in
    let none : slice_get (map statement_of ls) n ≡ None = slice_get_past (map statement_of ls) n (omega arith) in
    rw none refl

pub content_read : (ls : List Line) (sections : List Section) (n : ℕ) (l : Line) (c : Option Content) → n < length ls → l ≡ get_or ls n l → c ≡ option_and_then (content_for sections) (bound_by (statement_of l)) → c ≡ content_at (map statement_of ls) sections n
content_read ls sections n l c lt at is =
    let line : slice_get (map statement_of ls) n ≡ Some (statement_of l) = line_is ls n l lt at in
    rw line is
