use Rattle.std.proofs.Common.{map}
use Rattle.std.proofs.lemmas.Result.{err_from_is_err_and}
use Rattle.plain_text.proofs.GivenLemmas.{cut_before, cut_after, given_after}
use Rattle.script_lang.specs.Views.{skeleton_of, statement_of}
use Rattle.fuse_rewrite.specs.Steps.{last_of}
use Rattle.fuse_rewrite.specs.PlanText.{name_at, open_text}
use Rattle.fuse_rewrite.proofs.plan_text.write_piped.Goals as goal

pub returns-in_err-write_open-clause-cut_off : goal.returns-in_err-write_open-clause-cut_off
returns-in_err-write_open-clause-cut_off g c =
    let p = err_from_is_err_and c.from_residual.result c.from_residual.ensures.1 in
    rw p.1 (cut_before (open_text (skeleton_of c.args.skel.now)) (name_at (map statement_of c.args.lines.now) (last_of (skeleton_of c.args.skel.now).arguments)) _ _ _ _ _ _ c.in_err-write_open.ensures.cut_off)

pub returns-clause-given : goal.returns-clause-given
returns-clause-given g c =
    given_after c.write_name.result (open_text (skeleton_of c.args.skel.now)) (name_at (map statement_of c.args.lines.now) (last_of (skeleton_of c.args.skel.now).arguments)) _ _ _ _ _ _ c.in_ok-write_open.ensures.given (rw c.arguments_of.ensures.last at c.write_name.ensures.given)

pub returns-clause-cut_off : goal.returns-clause-cut_off
returns-clause-cut_off g c =
    cut_after c.write_name.result (open_text (skeleton_of c.args.skel.now)) (name_at (map statement_of c.args.lines.now) (last_of (skeleton_of c.args.skel.now).arguments)) _ _ _ _ _ _ _ _ _ c.in_ok-write_open.ensures.given c.write_open.ensures.never_falls (rw c.arguments_of.ensures.last at c.write_name.ensures.cut_off)
