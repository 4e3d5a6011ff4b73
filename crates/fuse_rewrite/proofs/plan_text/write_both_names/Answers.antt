use Rattle.std.proofs.Common.{[], ◌∷◌, map}
use Rattle.std.proofs.lemmas.Result.{err_from_is_err_and}
use Rattle.plain_text.proofs.GivenLemmas.{cut_before, cut_after, given_after}
use Rattle.script_lang.specs.Views.{statement_of}
use Rattle.fuse_rewrite.specs.PlanText.{parts_text, name_at}
use Rattle.fuse_rewrite.proofs.plan_text.write_both_names.Goals as goal

pub returns-in_err-write_name_after-clause-cut_off : goal.returns-in_err-write_name_after-clause-cut_off
returns-in_err-write_name_after-clause-cut_off g c =
    let p = err_from_is_err_and c.from_residual.result c.from_residual.ensures.1 in
    rw p.1 (cut_before (32 ∷ name_at (map statement_of c.args.lines.now) c.args.m) (parts_text (name_at (map statement_of c.args.lines.now) c.args.n ∷ [])) _ _ _ _ _ _ c.in_err-write_name_after.ensures.cut_off)

pub returns-clause-given : goal.returns-clause-given
returns-clause-given g c =
    given_after c.write_only_name.result (32 ∷ name_at (map statement_of c.args.lines.now) c.args.m) (parts_text (name_at (map statement_of c.args.lines.now) c.args.n ∷ [])) _ _ _ _ _ _ c.in_ok-write_name_after.ensures.given c.write_only_name.ensures.given

pub returns-clause-cut_off : goal.returns-clause-cut_off
returns-clause-cut_off g c =
    cut_after c.write_only_name.result (32 ∷ name_at (map statement_of c.args.lines.now) c.args.m) (parts_text (name_at (map statement_of c.args.lines.now) c.args.n ∷ [])) _ _ _ _ _ _ _ _ _ c.in_ok-write_name_after.ensures.given c.write_name_after.ensures.never_falls c.write_only_name.ensures.cut_off
