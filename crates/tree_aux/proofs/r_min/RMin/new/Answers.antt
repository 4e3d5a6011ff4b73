use Rattle.std.proofs.Common.{ap}
use Rattle.std.specs.Int.{int_min}
use Rattle.tree_aux.specs.BoundTrees.{single_or_naught}
use Rattle.tree_aux.specs.BoundTreeLaws.{min_choice}
use Rattle.tree_aux.proofs.RoseMeanings.{rose_bound_is}
use Rattle.tree_aux.proofs.r_min.RMin.new.Goals as goal

pub returns : goal.returns
returns g c = record { whole = λ ty r taken admitted. ap single_or_naught (rose_bound_is int_min min_choice r) }
