use Rattle.std.proofs.Common.{refl}
use Rattle.tree_aux.proofs.t_min.TMin.new.Goals as goal

pub returns : goal.returns
returns g c = record { whole = λ ty t taken admitted. refl }
