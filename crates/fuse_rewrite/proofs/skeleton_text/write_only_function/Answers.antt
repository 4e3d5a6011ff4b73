use Rattle.std.proofs.lemmas.List.{append-nil}
use Rattle.scalar_expr.specs.Views.{scalars_of}
use Rattle.fuse_rewrite.specs.PlanText.{function_text}
use Rattle.fuse_rewrite.proofs.skeleton_text.write_only_function.Goals as goal

pub returns-clause-given : goal.returns-clause-given
returns-clause-given g c = rw (append-nil (function_text (scalars_of c.args.f.now))) c.write_function_after.ensures.given

pub returns-clause-cut_off : goal.returns-clause-cut_off
returns-clause-cut_off g c = rw (append-nil (function_text (scalars_of c.args.f.now))) c.write_function_after.ensures.cut_off
