use Rattle.std.proofs.Common.{[], map}
use Rattle.std.proofs.lemmas.Result.{err_from_is_err_and}
use Rattle.script_lang.specs.Views.{statement_of}
use Rattle.fuse_rewrite.specs.PlanText.{plan_text}
use Rattle.plain_text.proofs.GivenLemmas.{cut_before, cut_after, given_after}
use Rattle.fuse_rewrite.proofs.plan_text.write_plan.Goals as goal

pub returns-in_err-write_nothing-clause-cut_off : goal.returns-in_err-write_nothing-clause-cut_off
returns-in_err-write_nothing-clause-cut_off g c =
    let p = err_from_is_err_and c.from_residual.result c.from_residual.ensures.1 in
    rw p.1 (cut_before [] (plan_text (map statement_of c.args.script.now)) _ _ _ _ _ _ c.in_err-write_nothing.ensures.cut_off)

pub returns-clause-given : goal.returns-clause-given
returns-clause-given g c =
    given_after c.write_steps.result [] (plan_text (map statement_of c.args.script.now)) _ _ _ _ _ _ c.in_ok-write_nothing.ensures.given (rw (c.as_slice.ensures.lines, c.steps.ensures, c.requires.planned) at c.write_steps.ensures.given)

pub returns-clause-cut_off : goal.returns-clause-cut_off
returns-clause-cut_off g c =
    cut_after c.write_steps.result [] (plan_text (map statement_of c.args.script.now)) _ _ _ _ _ _ _ _ _ c.in_ok-write_nothing.ensures.given c.write_nothing.ensures.never_falls (rw (c.as_slice.ensures.lines, c.steps.ensures, c.requires.planned) at c.write_steps.ensures.cut_off)
