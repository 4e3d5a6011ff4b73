use Rattle.std.proofs.Common.{refl}
use Rattle.tree_aux.proofs.r_path.RPath.new.Goals as goal

pub returns : goal.returns
returns g c = record { whole = λ ty r c taken fits admitted. refl }
