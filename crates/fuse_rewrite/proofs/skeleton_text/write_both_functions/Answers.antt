use Rattle.std.proofs.Common.{[], ◌∷◌}
use Rattle.std.proofs.lemmas.Result.{err_from_is_err_and}
use Rattle.plain_text.proofs.GivenLemmas.{cut_before, cut_after, given_after}
use Rattle.scalar_expr.specs.Views.{scalars_of}
use Rattle.fuse_rewrite.specs.PlanText.{parts_text, function_text}
use Rattle.fuse_rewrite.proofs.skeleton_text.write_both_functions.Goals as goal

pub returns-in_err-write_function_after-clause-cut_off : goal.returns-in_err-write_function_after-clause-cut_off
returns-in_err-write_function_after-clause-cut_off g c =
    let p = err_from_is_err_and c.from_residual.result c.from_residual.ensures.1 in
    rw p.1 (cut_before (32 ∷ function_text (scalars_of c.args.f.now)) (parts_text (function_text (scalars_of c.args.g.now) ∷ [])) _ _ _ _ _ _ c.in_err-write_function_after.ensures.cut_off)

pub returns-clause-given : goal.returns-clause-given
returns-clause-given g c =
    given_after c.write_only_function.result (32 ∷ function_text (scalars_of c.args.f.now)) (parts_text (function_text (scalars_of c.args.g.now) ∷ [])) _ _ _ _ _ _ c.in_ok-write_function_after.ensures.given c.write_only_function.ensures.given

pub returns-clause-cut_off : goal.returns-clause-cut_off
returns-clause-cut_off g c =
    cut_after c.write_only_function.result (32 ∷ function_text (scalars_of c.args.f.now)) (parts_text (function_text (scalars_of c.args.g.now) ∷ [])) _ _ _ _ _ _ _ _ _ c.in_ok-write_function_after.ensures.given c.write_function_after.ensures.never_falls c.write_only_function.ensures.cut_off
