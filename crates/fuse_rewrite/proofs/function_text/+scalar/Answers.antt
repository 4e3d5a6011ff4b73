use Rattle.std.proofs.Common.{[], ◌∷◌}
use Rattle.std.proofs.lemmas.Result.{err_from_is_err_and}
use Rattle.plain_text.proofs.GivenLemmas.{cut_before, cut_after, given_after}
use Rattle.scalar_expr.specs.Views.{expr_of}
use Rattle.fuse_rewrite.specs.PlanText.{closing_text, scalar_text}
use Rattle.fuse_rewrite.proofs.function_text.+scalar.Goals as goal

pub write_after-returns-in_err-text-clause-cut_off : goal.write_after-returns-in_err-text-clause-cut_off
write_after-returns-in_err-text-clause-cut_off g t c =
    let p = err_from_is_err_and c.from_residual.result c.from_residual.ensures.1 in
    rw p.1 (cut_before (32 ∷ []) (scalar_text (expr_of c.args.a.now)) _ _ _ _ _ _ c.in_err-text.ensures.cut_off)

pub write_after-returns-clause-given : goal.write_after-returns-clause-given
write_after-returns-clause-given g t c =
    given_after c.write_scalar.result (32 ∷ []) (scalar_text (expr_of c.args.a.now)) _ _ _ _ _ _ c.in_ok-text.ensures.given c.write_scalar.ensures.given

pub write_after-returns-clause-cut_off : goal.write_after-returns-clause-cut_off
write_after-returns-clause-cut_off g t c =
    cut_after c.write_scalar.result (32 ∷ []) (scalar_text (expr_of c.args.a.now)) _ _ _ _ _ _ _ _ _ c.in_ok-text.ensures.given c.text.ensures.never_falls c.write_scalar.ensures.cut_off

pub write_last-returns-in_err-write_after-clause-cut_off : goal.write_last-returns-in_err-write_after-clause-cut_off
write_last-returns-in_err-write_after-clause-cut_off g t c =
    let p = err_from_is_err_and c.from_residual.result c.from_residual.ensures.1 in
    rw p.1 (cut_before (32 ∷ scalar_text (expr_of c.args.a.now)) (41 ∷ []) _ _ _ _ _ _ c.in_err-write_after.ensures.cut_off)

pub write_last-returns-clause-given : goal.write_last-returns-clause-given
write_last-returns-clause-given g t c =
    given_after c.text.result (32 ∷ scalar_text (expr_of c.args.a.now)) (41 ∷ []) _ _ _ _ _ _ c.in_ok-write_after.ensures.given c.text.ensures.given

pub write_last-returns-clause-cut_off : goal.write_last-returns-clause-cut_off
write_last-returns-clause-cut_off g t c =
    cut_after c.text.result (32 ∷ scalar_text (expr_of c.args.a.now)) (41 ∷ []) _ _ _ _ _ _ _ _ _ c.in_ok-write_after.ensures.given c.write_after.ensures.never_falls c.text.ensures.cut_off

pub write_last_two-returns-in_err-write_after-clause-cut_off : goal.write_last_two-returns-in_err-write_after-clause-cut_off
write_last_two-returns-in_err-write_after-clause-cut_off g t c =
    let p = err_from_is_err_and c.from_residual.result c.from_residual.ensures.1 in
    rw p.1 (cut_before (32 ∷ scalar_text (expr_of c.args.a.now)) (closing_text (scalar_text (expr_of c.args.b.now) ∷ [])) _ _ _ _ _ _ c.in_err-write_after.ensures.cut_off)

pub write_last_two-returns-clause-given : goal.write_last_two-returns-clause-given
write_last_two-returns-clause-given g t c =
    given_after c.write_last.result (32 ∷ scalar_text (expr_of c.args.a.now)) (closing_text (scalar_text (expr_of c.args.b.now) ∷ [])) _ _ _ _ _ _ c.in_ok-write_after.ensures.given c.write_last.ensures.given

pub write_last_two-returns-clause-cut_off : goal.write_last_two-returns-clause-cut_off
write_last_two-returns-clause-cut_off g t c =
    cut_after c.write_last.result (32 ∷ scalar_text (expr_of c.args.a.now)) (closing_text (scalar_text (expr_of c.args.b.now) ∷ [])) _ _ _ _ _ _ _ _ _ c.in_ok-write_after.ensures.given c.write_after.ensures.never_falls c.write_last.ensures.cut_off

pub write_last_three-returns-in_err-write_after-clause-cut_off : goal.write_last_three-returns-in_err-write_after-clause-cut_off
write_last_three-returns-in_err-write_after-clause-cut_off g t c =
    let p = err_from_is_err_and c.from_residual.result c.from_residual.ensures.1 in
    rw p.1 (cut_before (32 ∷ scalar_text (expr_of c.args.a.now)) (closing_text (scalar_text (expr_of c.args.b.now) ∷ scalar_text (expr_of c.args.c.now) ∷ [])) _ _ _ _ _ _ c.in_err-write_after.ensures.cut_off)

pub write_last_three-returns-clause-given : goal.write_last_three-returns-clause-given
write_last_three-returns-clause-given g t c =
    given_after c.write_last_two.result (32 ∷ scalar_text (expr_of c.args.a.now)) (closing_text (scalar_text (expr_of c.args.b.now) ∷ scalar_text (expr_of c.args.c.now) ∷ [])) _ _ _ _ _ _ c.in_ok-write_after.ensures.given c.write_last_two.ensures.given

pub write_last_three-returns-clause-cut_off : goal.write_last_three-returns-clause-cut_off
write_last_three-returns-clause-cut_off g t c =
    cut_after c.write_last_two.result (32 ∷ scalar_text (expr_of c.args.a.now)) (closing_text (scalar_text (expr_of c.args.b.now) ∷ scalar_text (expr_of c.args.c.now) ∷ [])) _ _ _ _ _ _ _ _ _ c.in_ok-write_after.ensures.given c.write_after.ensures.never_falls c.write_last_two.ensures.cut_off

pub write_one-returns-in_err-text-clause-cut_off : goal.write_one-returns-in_err-text-clause-cut_off
write_one-returns-in_err-text-clause-cut_off g t c =
    let p = err_from_is_err_and c.from_residual.result c.from_residual.ensures.1 in
    rw p.1 (cut_before (c.args.front.now) (closing_text (scalar_text (expr_of c.args.a.now) ∷ [])) _ _ _ _ _ _ c.in_err-text.ensures.cut_off)

pub write_one-returns-clause-given : goal.write_one-returns-clause-given
write_one-returns-clause-given g t c =
    given_after c.write_last.result (c.args.front.now) (closing_text (scalar_text (expr_of c.args.a.now) ∷ [])) _ _ _ _ _ _ c.in_ok-text.ensures.given c.write_last.ensures.given

pub write_one-returns-clause-cut_off : goal.write_one-returns-clause-cut_off
write_one-returns-clause-cut_off g t c =
    cut_after c.write_last.result (c.args.front.now) (closing_text (scalar_text (expr_of c.args.a.now) ∷ [])) _ _ _ _ _ _ _ _ _ c.in_ok-text.ensures.given c.text.ensures.never_falls c.write_last.ensures.cut_off

pub write_two-returns-in_err-text-clause-cut_off : goal.write_two-returns-in_err-text-clause-cut_off
write_two-returns-in_err-text-clause-cut_off g t c =
    let p = err_from_is_err_and c.from_residual.result c.from_residual.ensures.1 in
    rw p.1 (cut_before (c.args.front.now) (closing_text (scalar_text (expr_of c.args.a.now) ∷ scalar_text (expr_of c.args.b.now) ∷ [])) _ _ _ _ _ _ c.in_err-text.ensures.cut_off)

pub write_two-returns-clause-given : goal.write_two-returns-clause-given
write_two-returns-clause-given g t c =
    given_after c.write_last_two.result (c.args.front.now) (closing_text (scalar_text (expr_of c.args.a.now) ∷ scalar_text (expr_of c.args.b.now) ∷ [])) _ _ _ _ _ _ c.in_ok-text.ensures.given c.write_last_two.ensures.given

pub write_two-returns-clause-cut_off : goal.write_two-returns-clause-cut_off
write_two-returns-clause-cut_off g t c =
    cut_after c.write_last_two.result (c.args.front.now) (closing_text (scalar_text (expr_of c.args.a.now) ∷ scalar_text (expr_of c.args.b.now) ∷ [])) _ _ _ _ _ _ _ _ _ c.in_ok-text.ensures.given c.text.ensures.never_falls c.write_last_two.ensures.cut_off

pub write_three-returns-in_err-text-clause-cut_off : goal.write_three-returns-in_err-text-clause-cut_off
write_three-returns-in_err-text-clause-cut_off g t c =
    let p = err_from_is_err_and c.from_residual.result c.from_residual.ensures.1 in
    rw p.1 (cut_before (c.args.front.now) (closing_text (scalar_text (expr_of c.args.a.now) ∷ scalar_text (expr_of c.args.b.now) ∷ scalar_text (expr_of c.args.c.now) ∷ [])) _ _ _ _ _ _ c.in_err-text.ensures.cut_off)

pub write_three-returns-clause-given : goal.write_three-returns-clause-given
write_three-returns-clause-given g t c =
    given_after c.write_last_three.result (c.args.front.now) (closing_text (scalar_text (expr_of c.args.a.now) ∷ scalar_text (expr_of c.args.b.now) ∷ scalar_text (expr_of c.args.c.now) ∷ [])) _ _ _ _ _ _ c.in_ok-text.ensures.given c.write_last_three.ensures.given

pub write_three-returns-clause-cut_off : goal.write_three-returns-clause-cut_off
write_three-returns-clause-cut_off g t c =
    cut_after c.write_last_three.result (c.args.front.now) (closing_text (scalar_text (expr_of c.args.a.now) ∷ scalar_text (expr_of c.args.b.now) ∷ scalar_text (expr_of c.args.c.now) ∷ [])) _ _ _ _ _ _ _ _ _ c.in_ok-text.ensures.given c.text.ensures.never_falls c.write_last_three.ensures.cut_off
