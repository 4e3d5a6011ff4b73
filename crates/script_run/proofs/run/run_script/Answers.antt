use Rattle.std.proofs.Common.{◌≡◌, ◌∙◌, map, sym, ap}
use Rattle.std.proofs.lemmas.Result.{IfOk-weaker}
use Rattle.data_text.specs.Named.{section_of}
use Rattle.script_lang.specs.Views.{statement_of}
use Rattle.fuse_rewrite.specs.Steps.{steps_of}
use Rattle.fuse_rewrite.specs.Meaning.{script_meaning}
use Rattle.script_run.proofs.RunLemmas.{IsGiven, fits_given, first_holds, prints_meaning}
use Rattle.script_run.proofs.run.run_script.Goals as goal

pub inputs_of-requires-clause-fits : goal.inputs_of-requires-clause-fits
inputs_of-requires-clause-fits g c =
    let lines = map statement_of c.as_slice-lines.result.now in
    let same : lines ≡ map statement_of c.args.script.now = ap (map statement_of) c.as_slice-lines.ensures.lines in
    let sections = map section_of c.args.sections in
    fits_given lines sections (rw same (record { typed = c.as_slice-lines.ensures.typed; fits = c.requires.fits; lists = c.requires.lists }))

pub run_steps-requires-clause-held : goal.run_steps-requires-clause-held
run_steps-requires-clause-held g c κs within =
    let lines = map statement_of c.as_slice-lines.result.now in
    let same : lines ≡ map statement_of c.args.script.now = ap (map statement_of) c.as_slice-lines.ensures.lines in
    let sections = map section_of c.args.sections in
    let given : IsGiven lines sections = rw same (record { typed = c.as_slice-lines.ensures.typed; fits = c.requires.fits; lists = c.requires.lists }) in
    (sections, first_holds lines c.steps.result.now sections c.as_mut_slice-table.result.now c.in_ok-values.values.items given c.as_mut_slice-table.ensures.value c.in_ok-values.ensures.held)

pub returns : goal.returns
returns g c =
    let ls = c.as_slice-lines.result.now in
    let lines = map statement_of ls in
    let same : lines ≡ map statement_of c.args.script.now = ap (map statement_of) c.as_slice-lines.ensures.lines in
    let sections = map section_of c.args.sections in
    let given : IsGiven lines sections = rw same (record { typed = c.as_slice-lines.ensures.typed; fits = c.requires.fits; lists = c.requires.lists }) in
    let first = first_holds lines c.steps.result.now sections c.as_mut_slice-table.result.now c.in_ok-values.values.items given c.as_mut_slice-table.ensures.value c.in_ok-values.ensures.held in
    let plan : c.steps.result.now ≡ steps_of lines = c.steps.ensures ∙ (c.requires.plan ∙ ap steps_of (sym same)) in
    let means = prints_meaning ls c.steps.result.now sections c.run_steps.new.table c.each_step_is_linked.ensures.printed given plan (c.in_ok-run_steps.ensures sections first) in
    IfOk-weaker c.printed.result _ _ (λ v e. e ∙ (means ∙ ap (script_meaning sections) same)) c.printed.ensures
