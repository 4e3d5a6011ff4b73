use Rattle.std.proofs.Common.{◌≡◌, map, Option, Some, None, refl, sym, ap, ◌∙◌}
use Rattle.std.specs.Prelude.{slice_get}
use Rattle.std.proofs.lemmas.List.{append-nil}
use Rattle.std.proofs.lemmas.Option.{slice_get-get_or}
use Rattle.data_text.specs.declared.value.Value.{Value}
use Rattle.script_lang.specs.Views.{statement_of}
use Rattle.script_lang.specs.Sound.{binding_at}
use Rattle.script_run.proofs.PrintedLemmas.{no_value}
use Rattle.script_run.proofs.printed.add_printed.Goals as goal

pub returns-in-None-clause-added : goal.returns-in-None-clause-added
returns-in-None-clause-added c =
    let at : slice_get c.args.table.now c.args.n ≡ Some None = slice_get-get_or c.args.table.now c.args.n c.index-table-n.result c.requires.within ∙ ap (λ (o : Option Value). Some o) (sym c.in-None.ensures.value) in
    rw (at, no_value (binding_at (map statement_of c.args.lines.now) c.args.n)) (sym (append-nil c.args.named.now.items))

pub returns-in_ok-push-in-Some-clause-added : goal.returns-in_ok-push-in-Some-clause-added
returns-in_ok-push-in-Some-clause-added c =
    let b = c.requires.bound.0 in
    let bound = c.requires.bound.1 in
    let at : slice_get c.args.table.now c.args.n ≡ Some (Some c.in-Some.value) = slice_get-get_or c.args.table.now c.args.n c.index-table-n.result c.requires.within ∙ ap (λ (o : Option Value). Some o) (sym c.in-Some.ensures.value) in
    let name = c.in_ok-name-in-Some.ensures ∙ (c.bytes.ensures.value ∙ c.name_at.ensures b bound) in
    rw (at, bound) (c.in_ok-push-in-Some.ensures.items ∙ rw name refl)
