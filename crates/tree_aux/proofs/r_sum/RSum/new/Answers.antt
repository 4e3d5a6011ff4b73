use Rattle.std.proofs.Common.{ap}
use Rattle.tree_aux.specs.SumTrees.{single}
use Rattle.tree_aux.proofs.RoseMeanings.{rose_sum_is}
use Rattle.tree_aux.proofs.r_sum.RSum.new.Goals as goal

pub returns : goal.returns
returns g c = record { whole = λ ty r taken admitted. ap single (rose_sum_is r) }
