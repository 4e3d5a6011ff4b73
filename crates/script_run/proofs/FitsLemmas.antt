-- Where data fits a script over lists, each input is a list, as long as the one that it is like.
use Rattle.std.proofs.Common.{◌≡◌, ◌∙◌, ℕ, zero, suc, true, List, [], ◌∷◌, length, Option, Some, None, Ok, refl, ap, sym, subst}
use Rattle.std.specs.Prelude.{ℤ, slice_get, option_and_then}
use Rattle.std.specs.List.{list_all}
use Rattle.std.proofs.lemmas.Bool.{and_parts, eqb-true}
use Rattle.std.proofs.lemmas.Option.{none-some, same_Some}
use Rattle.data_text.specs.Data.{Content, single, many, grid, tree, rose, Section}
use Rattle.script_lang.specs.declared.kind.Kind.{Kind}
use Rattle.script_lang.specs.declared.kind.Kind.TheVariants as kind
use Rattle.script_lang.specs.Syntax.{Statement, binds_input}
use Rattle.script_lang.specs.Steps.{bound_by}
use Rattle.script_run.specs.Fit.{is_of_kind, content_for, content_at, has_shape_of, is_like, fit_of, takes_list, over_lists}
use Rattle.script_run.specs.Fits.{IsAsLong, FitsLists}
use Rattle.script_run.proofs.EachFits.{each_fits}
use Rattle.script_run.proofs.MeantLemmas.{list_kind}

-- a line of a script over lists
takes_list_at : (lines : List Statement) (n : ℕ) (l : Statement) → list_all takes_list lines ≡ true → slice_get lines n ≡ Some l → takes_list l ≡ true
takes_list_at [] n l all at = absurd (none-some l at)
takes_list_at (x ∷ xs) zero l all at = subst (λ (m : Statement). takes_list m ≡ true) (same_Some x l at) (and_parts (takes_list x) (list_all takes_list xs) all).0
takes_list_at (x ∷ xs) (suc n) l all at = takes_list_at xs n l (and_parts (takes_list x) (list_all takes_list xs) all).1 at

numbers_of : (c : Content) → is_of_kind kind.List c ≡ true → (xs : List ℤ) × (c ≡ many xs)
numbers_of (single x) e = let no : ⊥ = cc in absurd no
numbers_of (many xs) e = (xs, refl)
numbers_of (grid rows cols xs) e = let no : ⊥ = cc in absurd no
numbers_of (tree nodes) e = let no : ⊥ = cc in absurd no
numbers_of (rose nodes) e = let no : ⊥ = cc in absurd no

-- a section that has the shape of the input that its own is like
as_long : (lines : List Statement) (sections : List Section) (like : Option ℕ) (xs : List ℤ) → is_like lines sections like (many xs) ≡ true → IsAsLong lines sections like (length xs)
as_long lines sections None xs e = tt
as_long lines sections (Some m) xs e = λ c k ys line there.
    let bound : content_at lines sections m ≡ Some (many ys) = ap (λ (o : Option Statement). option_and_then (content_for sections) (option_and_then bound_by o)) line ∙ there in
    let same : has_shape_of (Some (many ys)) (many xs) ≡ true = sym (ap (λ (o : Option Content). has_shape_of o (many xs)) bound) ∙ e in
    sym (eqb-true (length ys) (length xs) same)

pub fits_lists : (lines : List Statement) (sections : List Section) → fit_of lines sections ≡ Ok tt → over_lists lines ≡ true → FitsLists lines sections
fits_lists lines sections fits lists n b like at =
    let list : b.kind ≡ kind.List = list_kind b.kind (takes_list_at lines n (binds_input b like) lists at) in
    let f = each_fits lines sections n b like fits at in
    let xs = numbers_of f.content (subst (λ (k : Kind). is_of_kind k f.content ≡ true) list f.kind) in
    record {
      kind = list;
      numbers = xs.0;
      there = f.there ∙ ap (λ (c : Content). Some c) xs.1;
      alike = as_long lines sections like xs.0 (subst (λ (c : Content). is_like lines sections like c ≡ true) xs.1 f.alike);
    }
