use Rattle.std.proofs.Common.{map}
use Rattle.std.proofs.lemmas.List.{append-nil}
use Rattle.script_lang.specs.Views.{statement_of}
use Rattle.fuse_rewrite.specs.PlanText.{name_at}
use Rattle.fuse_rewrite.proofs.plan_text.write_only_name.Goals as goal

pub returns-clause-given : goal.returns-clause-given
returns-clause-given g c = rw (append-nil (name_at (map statement_of c.args.lines.now) c.args.n)) c.write_name_after.ensures.given

pub returns-clause-cut_off : goal.returns-clause-cut_off
returns-clause-cut_off g c = rw (append-nil (name_at (map statement_of c.args.lines.now) c.args.n)) c.write_name_after.ensures.cut_off
