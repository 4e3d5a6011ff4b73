use Rattle.std.proofs.Common.{[], ◌∷◌, map}
use Rattle.std.specs.Prelude.{reverse}
use Rattle.std.proofs.lemmas.Result.{err_from_is_err_and}
use Rattle.plain_text.proofs.GivenLemmas.{cut_before, cut_after, given_after}
use Rattle.script_lang.specs.Views.{statement_of}
use Rattle.fuse_rewrite.specs.PlanText.{pipe_text}
use Rattle.fuse_rewrite.proofs.plan_text.write_pipe_line.Goals as goal

pub returns-in_err-write_pipe-clause-cut_off : goal.returns-in_err-write_pipe-clause-cut_off
returns-in_err-write_pipe-clause-cut_off g c =
    let p = err_from_is_err_and c.from_residual.result c.from_residual.ensures.1 in
    rw p.1 (cut_before (pipe_text (map statement_of c.args.lines.now) c.args.step.now.line (reverse c.args.step.now.chain)) (10 ∷ []) _ _ _ _ _ _ (rw (c.line.ensures, c.chain.ensures) at c.in_err-write_pipe.ensures.cut_off))

pub returns-clause-given : goal.returns-clause-given
returns-clause-given g c =
    given_after c.text.result (pipe_text (map statement_of c.args.lines.now) c.args.step.now.line (reverse c.args.step.now.chain)) (10 ∷ []) _ _ _ _ _ _ (rw (c.line.ensures, c.chain.ensures) at c.in_ok-write_pipe.ensures.given) c.text.ensures.given

pub returns-clause-cut_off : goal.returns-clause-cut_off
returns-clause-cut_off g c =
    cut_after c.text.result (pipe_text (map statement_of c.args.lines.now) c.args.step.now.line (reverse c.args.step.now.chain)) (10 ∷ []) _ _ _ _ _ _ _ _ _ (rw (c.line.ensures, c.chain.ensures) at c.in_ok-write_pipe.ensures.given) c.write_pipe.ensures.never_falls c.text.ensures.cut_off
