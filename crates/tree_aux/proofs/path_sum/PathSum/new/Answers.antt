use Rattle.std.proofs.Common.{refl}
use Rattle.tree_aux.proofs.path_sum.PathSum.new.Goals as goal

pub returns : goal.returns
returns g c = record { whole = λ ty t c taken fits admitted. refl }
