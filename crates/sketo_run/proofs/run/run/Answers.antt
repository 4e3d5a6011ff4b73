use Rattle.std.proofs.Common.{ap, ◌∙◌, Err}
use Rattle.sketo_run.specs.Statuses.{code_of}
use Rattle.sketo_run.proofs.EndLemmas.{printed, printed_in_part, answered_code, write_code, stops_faultless, stops_script, stops_refused, stops_unread, stops_unbuilt, run_at_fault, no_run_at_fault, run_unbuilt, no_run_unbuilt}
use Rattle.sketo_run.proofs.run.run.Goals as goal

pub returns-in-Ok-clause-answered : goal.returns-in-Ok-clause-answered
returns-in-Ok-clause-answered g c = λ e.
    printed (g.F.Shelf.content c.args.shelf.now) (record { script = c.args.script.now; input = c.args.input.now }) c.in-Ok.answer _ _
    c.in-Ok.ensures.ok (c.print.ensures.text (answered_code c.print.result c.code.result c.code.ensures e))

pub returns-in-Ok-clause-in_part : goal.returns-in-Ok-clause-in_part
returns-in-Ok-clause-in_part g c = λ e.
    printed_in_part (g.F.Shelf.content c.args.shelf.now) (record { script = c.args.script.now; input = c.args.input.now }) c.in-Ok.answer _ _
    c.in-Ok.ensures.ok (c.print.ensures.front (write_code c.print.result c.code.result c.code.ensures e))

pub returns-in-Err-clause-complete : goal.returns-in-Err-clause-complete
returns-in-Err-clause-complete g c =
    stops_faultless (g.F.Shelf.content c.args.shelf.now) (record { script = c.args.script.now; input = c.args.input.now }) c.in-Err.stop _ (g.F.Shelf.faults c.args.shelf.now) (g.F.Shelf.faults c.answer.new.shelf) _ _
    (c.code-in-Err.ensures ∙ ap code_of c.status.ensures)
    c.in-Err.ensures.refused c.in-Err.ensures.form (λ e. c.in-Err.ensures.script_unread (ap Err e)) (λ e. c.in-Err.ensures.input_unread (ap Err e))

pub returns-in-Err-clause-read_failed : goal.returns-in-Err-clause-read_failed
returns-in-Err-clause-read_failed g c =
    stops_unread (g.F.Shelf.content c.args.shelf.now) (record { script = c.args.script.now; input = c.args.input.now }) c.in-Err.stop _ (g.F.Shelf.faults c.args.shelf.now) (g.F.Shelf.faults c.answer.new.shelf) _ _ _ _
    (c.code-in-Err.ensures ∙ ap code_of c.status.ensures)
    c.in-Err.ensures.form (λ e. c.in-Err.ensures.script_unread (ap Err e)) (λ e. c.in-Err.ensures.input_unread (ap Err e)) c.report_stop.ensures

pub returns-in-Err-clause-not_built : goal.returns-in-Err-clause-not_built
returns-in-Err-clause-not_built g c = λ e.
    stops_unbuilt (g.F.Shelf.content c.args.shelf.now c.args.script.now) c.in-Err.stop _ (c.code-in-Err.ensures ∙ ap code_of c.status.ensures) c.in-Err.ensures.form e

pub returns-in-Err-clause-script_refused : goal.returns-in-Err-clause-script_refused
returns-in-Err-clause-script_refused g c =
    stops_script (g.F.Shelf.content c.args.shelf.now) (record { script = c.args.script.now; input = c.args.input.now }) c.in-Err.stop _ _ _ _ _
    (c.code-in-Err.ensures ∙ ap code_of c.status.ensures) c.in-Err.ensures.form c.report_stop.ensures

pub returns-in-Err-clause-data_refused : goal.returns-in-Err-clause-data_refused
returns-in-Err-clause-data_refused g c =
    stops_refused (g.F.Shelf.content c.args.shelf.now) (record { script = c.args.script.now; input = c.args.input.now }) c.in-Err.stop _ _ _ _ _
    (c.code-in-Err.ensures ∙ ap code_of c.status.ensures) c.in-Err.ensures.refused c.report_stop.ensures

pub returns-in-Ok-clause-refused_script : goal.returns-in-Ok-clause-refused_script
returns-in-Ok-clause-refused_script g c = no_run_at_fault (g.F.Shelf.content c.args.shelf.now c.args.script.now) _ c.in-Ok.ensures.built

pub returns-in-Err-clause-refused_script : goal.returns-in-Err-clause-refused_script
returns-in-Err-clause-refused_script g c =
    run_at_fault (g.F.Shelf.content c.args.shelf.now c.args.script.now) c.in-Err.stop _ (c.code-in-Err.ensures ∙ ap code_of c.status.ensures) c.in-Err.ensures.form

pub returns-in-Ok-clause-unbuilt_script : goal.returns-in-Ok-clause-unbuilt_script
returns-in-Ok-clause-unbuilt_script g c = no_run_unbuilt (g.F.Shelf.content c.args.shelf.now c.args.script.now) _ c.in-Ok.ensures.built

pub returns-in-Err-clause-unbuilt_script : goal.returns-in-Err-clause-unbuilt_script
returns-in-Err-clause-unbuilt_script g c =
    run_unbuilt (g.F.Shelf.content c.args.shelf.now c.args.script.now) c.in-Err.stop _ (c.code-in-Err.ensures ∙ ap code_of c.status.ensures) c.in-Err.ensures.form
