use Rattle.std.proofs.Common.{◌≡◌}
use Rattle.std.proofs.Math.Logic.{∥∥₁_elim}
use mathlib.Core.Bool.{Bool-set}
use Rattle.list_skel.proofs.folds.confirm.Goals as goal

pub returns : goal.returns
returns g c = let holds = rw c.ty.ensures at c.accepts-takes.ensures in holds.0 (∥∥₁_elim c.requires (Bool-set _ _) holds.1)
