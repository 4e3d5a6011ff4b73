use Rattle.std.proofs.Common.{map}
use Rattle.std.proofs.lemmas.Result.{err_from_is_err_and}
use Rattle.script_lang.specs.Views.{statement_of}
use Rattle.sketo_run.proofs.AnswerLemmas.{accepted, refused_script}
use Rattle.sketo_run.proofs.scripts.script_in.Goals as goal

pub returns-in_err-read_script-clause-refused : goal.returns-in_err-read_script-clause-refused
returns-in_err-read_script-clause-refused g c =
    let p = err_from_is_err_and c.from_residual-in_err-read_script.result c.from_residual-in_err-read_script.ensures.1 in
    rw (p.1, p.2) (refused_script _ c.deref.result.now c.in_ok-text.text.items c.in_err-read_script.field-0.0 c.deref.ensures.value c.in_ok-text.ensures.told c.in_err-read_script.ensures)

pub returns-clause-accepted : goal.returns-clause-accepted
returns-clause-accepted g c = accepted _ c.deref.result.now c.in_ok-text.text.items (map statement_of c.in_ok-read_script.field-0) c.deref.ensures.value c.in_ok-text.ensures.told c.in_ok-read_script.ensures
