use Rattle.std.proofs.Common.{[], ◌∷◌}
use Rattle.std.proofs.lemmas.Result.{err_from_is_err_and}
use Rattle.plain_text.proofs.GivenLemmas.{cut_before, cut_after, given_after}
use Rattle.scalar_expr.specs.Views.{expr_of}
use Rattle.fuse_rewrite.specs.PlanText.{closing_text, scalar_text}
use Rattle.fuse_rewrite.proofs.function_text.write_last_four.Goals as goal

pub returns-in_err-write_after-clause-cut_off : goal.returns-in_err-write_after-clause-cut_off
returns-in_err-write_after-clause-cut_off g c =
    let p = err_from_is_err_and c.from_residual.result c.from_residual.ensures.1 in
    rw p.1 (cut_before (32 ∷ scalar_text (expr_of c.args.a.now)) (closing_text (scalar_text (expr_of c.args.b.now) ∷ scalar_text (expr_of c.args.c.now) ∷ scalar_text (expr_of c.args.d.now) ∷ [])) _ _ _ _ _ _ c.in_err-write_after.ensures.cut_off)

pub returns-clause-given : goal.returns-clause-given
returns-clause-given g c =
    given_after c.write_last_three.result (32 ∷ scalar_text (expr_of c.args.a.now)) (closing_text (scalar_text (expr_of c.args.b.now) ∷ scalar_text (expr_of c.args.c.now) ∷ scalar_text (expr_of c.args.d.now) ∷ [])) _ _ _ _ _ _ c.in_ok-write_after.ensures.given c.write_last_three.ensures.given

pub returns-clause-cut_off : goal.returns-clause-cut_off
returns-clause-cut_off g c =
    cut_after c.write_last_three.result (32 ∷ scalar_text (expr_of c.args.a.now)) (closing_text (scalar_text (expr_of c.args.b.now) ∷ scalar_text (expr_of c.args.c.now) ∷ scalar_text (expr_of c.args.d.now) ∷ [])) _ _ _ _ _ _ _ _ _ c.in_ok-write_after.ensures.given c.write_after.ensures.never_falls c.write_last_three.ensures.cut_off
