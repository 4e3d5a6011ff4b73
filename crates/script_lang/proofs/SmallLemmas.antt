-- Lines have few nodes where their functions, as they are written, have.
use Rattle.std.proofs.Common.{◌≡◌, inl, inr, length-append, ℕ, ◌+◌, ◌<◌, List, [], ◌∷◌, ◌++◌, Ok, Err, Result, Some, None, length, refl, subst, arith}
use Rattle.std.specs.Prelude.{slice_get, IfOk, map, not, ◌&&◌, nat_lt, filter}
use Rattle.std.specs.List.{list_any}
use Rattle.script_words.specs.declared.fault.LineFault.{LineFault}
use Rattle.script_words.specs.declared.fault.ScriptWhat.TheVariants as what
use Rattle.script_words.specs.Lines.{Token}
use Rattle.script_words.specs.Read.{unless, Gives}
use Rattle.script_words.specs.Functions.{Function}
use Rattle.script_lang.specs.declared.head.Head.{Head}
use Rattle.script_lang.specs.declared.kind.Kind.{Kind}
use Rattle.script_lang.specs.declared.line.Line.{Line}
use Rattle.script_lang.specs.declared.form.Written.{Written as Grouped}
use Rattle.script_lang.specs.declared.form.Written.TheVariants as written
use Rattle.script_lang.specs.declared.form.Form.{Form as Line_form}
use Rattle.script_lang.specs.declared.form.Form.TheVariants as form
use Rattle.script_lang.specs.Syntax.{Statement, Written, Form, input_form, let_form, print_form, binds_let}
use Rattle.script_lang.specs.Tables.{is_dacc, same_kind}
use Rattle.script_lang.specs.Steps.{known_at, known_all, first_of, is_new, kinds_at, operators_at, abiding_at, types_at, components_at, type_at, unit_at, pair_at, is_print, prints_line, let_line, input_line, like_line, print_line, line_of}
use Rattle.script_lang.specs.Views.{form_of, written_of, statement_of}
use Rattle.script_lang.specs.Sound.{AreSmall, IsSmallLine, AreSmallLines}
use Rattle.script_lang.proofs.SoundLemmas.{bind_ok, ok_is, last_is, before_is, within, two_places}

-- ---- forms

-- functions as they are written have few nodes
abbrev HasSmallFunctions : Written → Type 0
HasSmallFunctions w = AreSmall (map (λ (f : Function). f.scalars) w.functions)

-- the functions of a let line have few nodes
abbrev IsSmallForm : Form → Type 0
IsSmallForm (input_form name k like) = Unit {0}
IsSmallForm (let_form name h w) = HasSmallFunctions w
IsSmallForm (print_form at of) = Unit {0}

written_small : (w : Grouped) → HasSmallFunctions (written_of w)
written_small (written.Mapped h f x) = (omega (arith, f.few), tt)
written_small (written.Mapln leaf node x) = (omega (arith, leaf.few), (omega (arith, node.few), tt))
written_small (written.Zip x y) = tt
written_small (written.Plain h x) = tt
written_small (written.Folded h o x) = tt
written_small (written.Flat h o x) = tt
written_small (written.Both h down across x) = tt
written_small (written.Dacc o start x) = tt
written_small (written.Child h start x) = tt

form_small : (f : Line_form) → IsSmallForm (form_of f)
form_small (form.Input name k like) = tt
form_small (form.Let name w) = written_small w
form_small (form.Print at of) = tt

-- ---- lines

let_small : (lines : List Statement) (name : Token) (h : Head) (w : Written) (l : Statement) → HasSmallFunctions w → let_line lines name h w ≡ Ok l → IsSmallLine l
unfolding let_line
let_small lines name h w l few e =
    let args = bind_ok (known_all lines w.arguments) _ _ e in
    let first = bind_ok (first_of args.0) _ _ args.2 in
    let x = first.0.0 in
    let ys = first.0.1 in
    let fresh = bind_ok (is_new lines name) _ _ first.2 in
    let kinds = bind_ok (kinds_at h (length w.operators) x ys) _ _ fresh.2 in
    let ops = bind_ok (operators_at (is_dacc h) x.bound.kind w.operators) _ _ kinds.2 in
    let abide = bind_ok (abiding_at ops.0) _ _ ops.2 in
    let types = bind_ok (types_at x.bound.ty w.functions) _ _ abide.2 in
    let fit = bind_ok (components_at types.0 h w.functions) _ _ types.2 in
    let ty = bind_ok (type_at h ops.0 types.0 x ys) _ _ fit.2 in
    let unit = bind_ok (unit_at ops.0 h x.bound.kind) _ _ ty.2 in
    let pair = bind_ok (pair_at x ys) _ _ unit.2 in
    subst (λ (m : Statement). IsSmallLine m) (ok_is _ _ _ refl pair.2) few

input_small : (lines : List Statement) (name : Token) (k : Kind) (l : Statement) → input_line lines name k ≡ Ok l → IsSmallLine l
unfolding input_line
input_small lines name k l e =
    let fresh = bind_ok (is_new lines name) _ _ e in
    subst (λ (m : Statement). IsSmallLine m) (ok_is _ _ _ refl fresh.2) tt

like_small : (lines : List Statement) (name : Token) (k : Kind) (like : Token) (l : Statement) → like_line lines name k like ≡ Ok l → IsSmallLine l
unfolding like_line
like_small lines name k like l e =
    let known = bind_ok (known_at lines like) _ _ e in
    let fresh = bind_ok (is_new lines name) _ _ known.2 in
    let kinds = bind_ok (unless (known.0.input && same_kind known.0.bound.kind k) known.0.column what.WrongKind) _ _ fresh.2 in
    subst (λ (m : Statement). IsSmallLine m) (ok_is _ _ _ refl kinds.2) tt

print_small : (lines : List Statement) (at : ℕ) (of : Token) (l : Statement) → print_line lines at of ≡ Ok l → IsSmallLine l
unfolding print_line
print_small lines at of l e =
    let few = bind_ok (unless (nat_lt (length (filter is_print lines)) 64) at what.TooManyPrints) _ _ e in
    let known = bind_ok (known_at lines of) _ _ few.2 in
    let once = bind_ok (unless (not (list_any (prints_line known.0.line) lines)) known.0.column what.Rebound) _ _ known.2 in
    subst (λ (m : Statement). IsSmallLine m) (ok_is _ _ _ refl once.2) tt

line_small : (lines : List Statement) (f : Form) (l : Statement) → IsSmallForm f → line_of lines f ≡ Ok l → IsSmallLine l
unfolding line_of
line_small lines (input_form name k None) l few e = input_small lines name k l e
line_small lines (input_form name k (Some like)) l few e = like_small lines name k like l e
line_small lines (let_form name h w) l few e = let_small lines name h w l few e
line_small lines (print_form at of) l few e = print_small lines at of l e

-- what a call answered that is given by the form of a line
pub small_result : (r : Result Line LineFault) (lines : List Statement) (f : Line_form) → Gives statement_of r (line_of lines (form_of f)) → IfOk r (λ l. IsSmallLine (statement_of l))
small_result (Ok l) lines f e = line_small lines (form_of f) (statement_of l) (form_small f) e
small_result (Err fault) lines f e = tt

-- ---- scripts

pub nothing_small : AreSmallLines []
nothing_small n b s e = absurd (cc)

pub one_more_small : (lines : List Statement) (y : Statement) → AreSmallLines lines → IsSmallLine y → AreSmallLines (lines ++ y ∷ [])
one_more_small lines y h k n b s e =
    let lt : n < length lines + 1 = omega (arith, within (lines ++ y ∷ []) (binds_let b s) n e, length-append lines (y ∷ [])) in
    elim (two_places n (length lines) lt) [
      | inl p ↦ h n b s (before_is lines y (binds_let b s) n p e)
      | inr p ↦
          let here : slice_get (lines ++ y ∷ []) (length lines) ≡ Some (binds_let b s) = rw (← p) e in
          subst (λ (m : Statement). IsSmallLine m) (last_is lines y (binds_let b s) here) k
    ]
