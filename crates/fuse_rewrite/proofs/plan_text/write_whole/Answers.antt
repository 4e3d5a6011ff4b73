use Rattle.std.proofs.Common.{map}
use Rattle.std.proofs.lemmas.Result.{err_from_is_err_and}
use Rattle.plain_text.proofs.GivenLemmas.{cut_before, cut_after, given_after}
use Rattle.script_lang.specs.Views.{skeleton_of, statement_of}
use Rattle.fuse_rewrite.specs.PlanText.{parts_text, name_at, front_text}
use Rattle.fuse_rewrite.proofs.plan_text.write_whole.Goals as goal

pub returns-in_err-write_front-clause-cut_off : goal.returns-in_err-write_front-clause-cut_off
returns-in_err-write_front-clause-cut_off g c =
    let p = err_from_is_err_and c.from_residual.result c.from_residual.ensures.1 in
    rw p.1 (cut_before (front_text (skeleton_of c.args.skel.now)) (parts_text (map (name_at (map statement_of c.args.lines.now)) (skeleton_of c.args.skel.now).arguments)) _ _ _ _ _ _ c.in_err-write_front.ensures.cut_off)

pub returns-clause-given : goal.returns-clause-given
returns-clause-given g c =
    given_after c.write_names.result (front_text (skeleton_of c.args.skel.now)) (parts_text (map (name_at (map statement_of c.args.lines.now)) (skeleton_of c.args.skel.now).arguments)) _ _ _ _ _ _ c.in_ok-write_front.ensures.given (rw c.arguments_of.ensures.listed at c.write_names.ensures.given)

pub returns-clause-cut_off : goal.returns-clause-cut_off
returns-clause-cut_off g c =
    cut_after c.write_names.result (front_text (skeleton_of c.args.skel.now)) (parts_text (map (name_at (map statement_of c.args.lines.now)) (skeleton_of c.args.skel.now).arguments)) _ _ _ _ _ _ _ _ _ c.in_ok-write_front.ensures.given c.write_front.ensures.never_falls (rw c.arguments_of.ensures.listed at c.write_names.ensures.cut_off)
