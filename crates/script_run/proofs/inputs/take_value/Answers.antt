use Rattle.std.proofs.Common.{◌≡◌, length, refl, ap, ◌∙◌}
use Rattle.std.proofs.lemmas.Option.{slice_get_read}
use Rattle.data_text.specs.declared.value.Named.{Named}
use Rattle.script_run.proofs.FitLemmas.{content-found, content-missing}
use Rattle.script_run.proofs.InputLemmas.{content_under-remove}
use Rattle.script_run.proofs.inputs.take_value.Goals as goal

pub returns-in-None-clause-content : goal.returns-in-None-clause-content
returns-in-None-clause-content c = content-missing c.args.name.now c.args.sections.now.items (rw c.deref.ensures.value at c.in-None.ensures.place)

pub returns-in-Some-clause-content : goal.returns-in-Some-clause-content
returns-in-Some-clause-content c = content-found c.args.name.now c.args.sections.now.items c.in-Some.i c.remove.result (rw c.deref.ensures.value at c.in-Some.ensures.place) c.remove.ensures.value

pub returns-in-Some-clause-others : goal.returns-in-Some-clause-others
returns-in-Some-clause-others c other apart =
    let name = c.args.name.now in
    let sections = c.args.sections.now.items in
    let within = rw c.deref.ensures.value at c.in-Some.ensures.within in
    let named = rw c.deref.ensures.value at c.in-Some.ensures.named in
    let at = slice_get_read sections (length sections) c.in-Some.i c.remove.result refl within c.remove.ensures.value in
    let same : c.remove.result.name ≡ name = ap (λ (s : Named). s.name) c.remove.ensures.value ∙ named c.remove.result in
    rw c.remove.ensures.items (content_under-remove other sections c.in-Some.i c.remove.result at (rw same apart))
