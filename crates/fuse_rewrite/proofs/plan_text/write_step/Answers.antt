use Rattle.std.proofs.Common.{[], ◌∷◌, ◌++◌, map}
use Rattle.std.specs.Prelude.{codes, reverse}
use Rattle.std.proofs.lemmas.Result.{err_from_is_err_and}
use Rattle.plain_text.proofs.GivenLemmas.{cut_before, cut_after, given_after}
use Rattle.script_lang.specs.Views.{statement_of}
use Rattle.fuse_rewrite.specs.PlanText.{name_at, pipe_text}
use Rattle.fuse_rewrite.proofs.plan_text.write_step.Goals as goal

pub returns-in_err-write_name-clause-cut_off : goal.returns-in_err-write_name-clause-cut_off
returns-in_err-write_name-clause-cut_off g c =
    let p = err_from_is_err_and c.from_residual.result c.from_residual.ensures.1 in
    rw p.1 (cut_before (name_at (map statement_of c.args.lines.now) c.args.step.now.line) (codes " = " ++ (pipe_text (map statement_of c.args.lines.now) c.args.step.now.line (reverse c.args.step.now.chain) ++ 10 ∷ [])) _ _ _ _ _ _ (rw c.line.ensures at c.in_err-write_name.ensures.cut_off))

pub returns-clause-given : goal.returns-clause-given
returns-clause-given g c =
    given_after c.write_after_name.result (name_at (map statement_of c.args.lines.now) c.args.step.now.line) (codes " = " ++ (pipe_text (map statement_of c.args.lines.now) c.args.step.now.line (reverse c.args.step.now.chain) ++ 10 ∷ [])) _ _ _ _ _ _ (rw c.line.ensures at c.in_ok-write_name.ensures.given) c.write_after_name.ensures.given

pub returns-clause-cut_off : goal.returns-clause-cut_off
returns-clause-cut_off g c =
    cut_after c.write_after_name.result (name_at (map statement_of c.args.lines.now) c.args.step.now.line) (codes " = " ++ (pipe_text (map statement_of c.args.lines.now) c.args.step.now.line (reverse c.args.step.now.chain) ++ 10 ∷ [])) _ _ _ _ _ _ _ _ _ (rw c.line.ensures at c.in_ok-write_name.ensures.given) c.write_name.ensures.never_falls c.write_after_name.ensures.cut_off
