use Rattle.std.proofs.Common.{arith, map}
use Rattle.std.proofs.lemmas.Result.{err_from_is_err_and}
use Rattle.script_lang.specs.Views.{statement_of}
use Rattle.fuse_rewrite.specs.PlanText.{step_text}
use Rattle.plain_text.proofs.GivenLemmas.{loop_cut}
use Rattle.fuse_rewrite.proofs.plan_text.write_steps.Goals as goal

pub returns-in_err-write_step-clause-cut_off : goal.returns-in_err-write_step-clause-cut_off
returns-in_err-write_step-clause-cut_off g c =
    let p = err_from_is_err_and c.from_residual.result c.from_residual.ensures.1 in
    rw p.1 (loop_cut (step_text (map statement_of c.args.lines.now)) c.args.steps.now c.loop-step.step-index c.step-item.result _ _ _ _ _ _ _ _ _ (omega arith) c.loop-step.invariant.hands c.loop-step.invariant.no_less (rw c.step-item.is at c.in_err-write_step.ensures.cut_off))
