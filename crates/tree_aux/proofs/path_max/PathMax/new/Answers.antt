use Rattle.std.proofs.Common.{refl}
use Rattle.tree_aux.proofs.path_max.PathMax.new.Goals as goal

pub returns : goal.returns
returns g c = record { whole = λ ty t c taken fits admitted. refl }
