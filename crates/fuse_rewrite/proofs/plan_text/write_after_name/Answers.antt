use Rattle.std.proofs.Common.{[], ◌∷◌, ◌++◌, map}
use Rattle.std.specs.Prelude.{codes, reverse}
use Rattle.std.proofs.lemmas.Result.{err_from_is_err_and}
use Rattle.plain_text.proofs.GivenLemmas.{cut_before, cut_after, given_after}
use Rattle.script_lang.specs.Views.{statement_of}
use Rattle.fuse_rewrite.specs.PlanText.{pipe_text}
use Rattle.fuse_rewrite.proofs.plan_text.write_after_name.Goals as goal

pub returns-in_err-text-clause-cut_off : goal.returns-in_err-text-clause-cut_off
returns-in_err-text-clause-cut_off g c =
    let p = err_from_is_err_and c.from_residual.result c.from_residual.ensures.1 in
    rw p.1 (cut_before (codes " = ") (pipe_text (map statement_of c.args.lines.now) c.args.step.now.line (reverse c.args.step.now.chain) ++ 10 ∷ []) _ _ _ _ _ _ c.in_err-text.ensures.cut_off)

pub returns-clause-given : goal.returns-clause-given
returns-clause-given g c =
    given_after c.write_pipe_line.result (codes " = ") (pipe_text (map statement_of c.args.lines.now) c.args.step.now.line (reverse c.args.step.now.chain) ++ 10 ∷ []) _ _ _ _ _ _ c.in_ok-text.ensures.given c.write_pipe_line.ensures.given

pub returns-clause-cut_off : goal.returns-clause-cut_off
returns-clause-cut_off g c =
    cut_after c.write_pipe_line.result (codes " = ") (pipe_text (map statement_of c.args.lines.now) c.args.step.now.line (reverse c.args.step.now.chain) ++ 10 ∷ []) _ _ _ _ _ _ _ _ _ c.in_ok-text.ensures.given c.text.ensures.never_falls c.write_pipe_line.ensures.cut_off
