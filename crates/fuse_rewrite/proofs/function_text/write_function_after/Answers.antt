use Rattle.std.proofs.Common.{[], ◌∷◌}
use Rattle.std.proofs.lemmas.Result.{err_from_is_err_and}
use Rattle.plain_text.proofs.GivenLemmas.{cut_before, cut_after, given_after}
use Rattle.scalar_expr.specs.Views.{scalars_of}
use Rattle.fuse_rewrite.specs.PlanText.{function_text}
use Rattle.fuse_rewrite.proofs.function_text.write_function_after.Goals as goal

pub returns-in_err-text-clause-cut_off : goal.returns-in_err-text-clause-cut_off
returns-in_err-text-clause-cut_off g c =
    let p = err_from_is_err_and c.from_residual.result c.from_residual.ensures.1 in
    rw p.1 (cut_before (32 ∷ []) (function_text (scalars_of c.args.f.now)) _ _ _ _ _ _ c.in_err-text.ensures.cut_off)

pub returns-clause-given : goal.returns-clause-given
returns-clause-given g c =
    given_after c.write_function.result (32 ∷ []) (function_text (scalars_of c.args.f.now)) _ _ _ _ _ _ c.in_ok-text.ensures.given c.write_function.ensures.given

pub returns-clause-cut_off : goal.returns-clause-cut_off
returns-clause-cut_off g c =
    cut_after c.write_function.result (32 ∷ []) (function_text (scalars_of c.args.f.now)) _ _ _ _ _ _ _ _ _ c.in_ok-text.ensures.given c.text.ensures.never_falls c.write_function.ensures.cut_off
