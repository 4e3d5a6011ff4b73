use Rattle.std.proofs.Common.{ap}
use Rattle.tree_aux.specs.BoundTrees.{single_or_naught}
use Rattle.tree_aux.proofs.RoseMeanings.{rose_heavy_is}
use Rattle.tree_aux.proofs.r_heavy.RHeavy.new.Goals as goal

pub returns : goal.returns
returns g c = record { whole = λ ty r taken admitted. ap single_or_naught (rose_heavy_is r) }
