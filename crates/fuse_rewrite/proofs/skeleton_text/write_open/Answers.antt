use Rattle.std.specs.Prelude.{codes}
use Rattle.std.proofs.lemmas.Result.{err_from_is_err_and}
use Rattle.plain_text.proofs.GivenLemmas.{cut_before, cut_after, given_after}
use Rattle.script_lang.specs.Views.{skeleton_of}
use Rattle.fuse_rewrite.specs.PlanText.{front_text}
use Rattle.fuse_rewrite.proofs.skeleton_text.write_open.Goals as goal

pub returns-in_err-write_front-clause-cut_off : goal.returns-in_err-write_front-clause-cut_off
returns-in_err-write_front-clause-cut_off g c =
    let p = err_from_is_err_and c.from_residual.result c.from_residual.ensures.1 in
    rw p.1 (cut_before (front_text (skeleton_of c.args.skel.now)) (codes " <- ") _ _ _ _ _ _ c.in_err-write_front.ensures.cut_off)

pub returns-clause-given : goal.returns-clause-given
returns-clause-given g c =
    given_after c.text.result (front_text (skeleton_of c.args.skel.now)) (codes " <- ") _ _ _ _ _ _ c.in_ok-write_front.ensures.given c.text.ensures.given

pub returns-clause-cut_off : goal.returns-clause-cut_off
returns-clause-cut_off g c =
    cut_after c.text.result (front_text (skeleton_of c.args.skel.now)) (codes " <- ") _ _ _ _ _ _ _ _ _ c.in_ok-write_front.ensures.given c.write_front.ensures.never_falls c.text.ensures.cut_off
