use Rattle.std.proofs.Common.{ap, ◌∙◌}
use Rattle.std.proofs.Math.Logic.{∥∥₁_elim}
use mathlib.Core.Bool.{Bool-set}
use Rattle.matrix_skel.proofs.folds.confirm.Goals as goal

pub returns : goal.returns
returns g c = let holds = rw (c.ty.ensures ∙ ap (λ x. x.ty) c.cells.ensures.value) at c.accepts-takes.ensures in holds.0 (∥∥₁_elim c.requires (Bool-set _ _) holds.1)
