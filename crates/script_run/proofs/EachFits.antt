-- Where data fits a script, each input has its section.
use Rattle.std.proofs.Common.{◌≡◌, ℕ, zero, suc, Bool, true, false, List, [], ◌∷◌, Option, Some, None, Ok, Err, refl, subst}
use Rattle.std.specs.Prelude.{slice_get, if◌then◌else◌}
use Rattle.std.proofs.lemmas.Option.{none-some, same_Some}
use Rattle.data_text.specs.Data.{Content, Section}
use Rattle.script_lang.specs.Syntax.{Binding, Statement, binds_input}
use Rattle.script_run.specs.declared.fitting.FitFault.TheVariants.{WrongKind, NotLike}
use Rattle.script_run.specs.Fit.{is_of_kind, content_for, is_like, Fit, content_fit, line_fit, inputs_after, unless_fault, fit_from, fit_of}

-- the data has a section for an input, of its kind, and of the shape of the one that it is like
pub record Fits (lines : List Statement) (sections : List Section) (b : Binding) (like : Option ℕ) : Type 0 where
  pub content : Content
  pub there : content_for sections b ≡ Some content
  pub kind : is_of_kind b.kind content ≡ true
  pub alike : is_like lines sections like content ≡ true

both : (k l : Bool) (i : ℕ) → ◌≡◌ {A = Fit} (if k then (if l then Ok tt else Err (NotLike i)) else Err (WrongKind i)) (Ok tt) → (k ≡ true) × (l ≡ true)
both true true i e = (refl, refl)
both true false i e = let no : ⊥ = cc in absurd no
both false l i e = let no : ⊥ = cc in absurd no

content_fits : (lines : List Statement) (sections : List Section) (i : ℕ) (b : Binding) (like : Option ℕ) (o : Option Content) → content_for sections b ≡ o → content_fit lines sections i b like o ≡ Ok tt → Fits lines sections b like
content_fits lines sections i b like None is e = let no : ⊥ = cc in absurd no
content_fits lines sections i b like (Some c) is e =
    let p = both (is_of_kind b.kind c) (is_like lines sections like c) i e in
    record { content = c; there = is; kind = p.0; alike = p.1 }

neither : (f g : Fit) → unless_fault f g ≡ Ok tt → (f ≡ Ok tt) × (g ≡ Ok tt)
neither (Ok x) g e = (refl, e)
neither (Err f) g e = let no : ⊥ = cc in absurd no

each_from : (lines : List Statement) (sections : List Section) (i : ℕ) (ls : List Statement) (n : ℕ) (b : Binding) (like : Option ℕ) → fit_from lines sections i ls ≡ Ok tt → slice_get ls n ≡ Some (binds_input b like) → Fits lines sections b like
each_from lines sections i [] n b like e at = absurd (none-some (binds_input b like) at)
each_from lines sections i (l ∷ ls) zero b like e at =
    let p = neither (line_fit lines sections i l) (fit_from lines sections (inputs_after i l) ls) e in
    let here : line_fit lines sections i (binds_input b like) ≡ Ok tt = subst (λ (m : Statement). line_fit lines sections i m ≡ Ok tt) (same_Some l (binds_input b like) at) p.0 in
    content_fits lines sections i b like (content_for sections b) refl here
each_from lines sections i (l ∷ ls) (suc n) b like e at =
    let p = neither (line_fit lines sections i l) (fit_from lines sections (inputs_after i l) ls) e in
    each_from lines sections (inputs_after i l) ls n b like p.1 at

pub each_fits : (lines : List Statement) (sections : List Section) (n : ℕ) (b : Binding) (like : Option ℕ) → fit_of lines sections ≡ Ok tt → slice_get lines n ≡ Some (binds_input b like) → Fits lines sections b like
each_fits lines sections n b like e at = each_from lines sections 0 lines n b like e at
