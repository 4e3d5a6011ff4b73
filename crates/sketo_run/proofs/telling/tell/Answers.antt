use Rattle.std.proofs.Common.{ap, ◌∙◌, Err}
use Rattle.sketo_run.specs.Statuses.{code_of}
use Rattle.sketo_run.specs.Accounts.{account_text}
use Rattle.sketo_run.proofs.EndLemmas.{told_printed, told_in_part, answered_code, write_code, telling_script, telling_faultless, telling_at_fault, no_telling_at_fault}
use Rattle.sketo_run.proofs.telling.tell.Goals as goal

pub returns-in-Ok-clause-answered : goal.returns-in-Ok-clause-answered
returns-in-Ok-clause-answered g c = λ e.
    told_printed (g.F.Shelf.content c.args.shelf.now c.args.script.now) c.args.what (account_text c.in-Ok.account) _ _
    c.in-Ok.ensures.told (c.print.ensures.text (answered_code c.print.result c.code.result c.code.ensures e))

pub returns-in-Ok-clause-in_part : goal.returns-in-Ok-clause-in_part
returns-in-Ok-clause-in_part g c = λ e.
    told_in_part (g.F.Shelf.content c.args.shelf.now c.args.script.now) c.args.what (account_text c.in-Ok.account) _ _
    c.in-Ok.ensures.told (c.print.ensures.front (write_code c.print.result c.code.result c.code.ensures e))

pub returns-in-Err-clause-complete : goal.returns-in-Err-clause-complete
returns-in-Err-clause-complete g c =
    telling_faultless (g.F.Shelf.content c.args.shelf.now) c.args.script.now c.in-Err.stop _ (g.F.Shelf.faults c.args.shelf.now) (g.F.Shelf.faults c.account_of.new.shelf) _ _
    (c.code-in-Err.ensures ∙ ap code_of c.status.ensures)
    c.in-Err.ensures.refused c.in-Err.ensures.script_alone (λ e. c.in-Err.ensures.unread (ap Err e))

pub returns-in-Err-clause-script_refused : goal.returns-in-Err-clause-script_refused
returns-in-Err-clause-script_refused g c =
    telling_script (g.F.Shelf.content c.args.shelf.now c.args.script.now) (record { script = c.args.script.now; input = _ }) c.in-Err.stop _ _ _ _ _
    (c.code-in-Err.ensures ∙ ap code_of c.status.ensures) c.in-Err.ensures.refused c.report_stop.ensures

pub returns-in-Ok-clause-refused_script : goal.returns-in-Ok-clause-refused_script
returns-in-Ok-clause-refused_script g c =
    no_telling_at_fault (g.F.Shelf.content c.args.shelf.now c.args.script.now) c.args.what (account_text c.in-Ok.account) _ c.in-Ok.ensures.told

pub returns-in-Err-clause-refused_script : goal.returns-in-Err-clause-refused_script
returns-in-Err-clause-refused_script g c =
    telling_at_fault (g.F.Shelf.content c.args.shelf.now c.args.script.now) c.in-Err.stop _ (c.code-in-Err.ensures ∙ ap code_of c.status.ensures) c.in-Err.ensures.script_alone
