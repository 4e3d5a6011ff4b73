use Rattle.std.proofs.Common.{ap}
use Rattle.tree_aux.specs.SumTrees.{single}
use Rattle.tree_aux.proofs.RoseMeanings.{rose_ring_is}
use Rattle.tree_aux.proofs.r_ring.RRing.new.Goals as goal

pub returns : goal.returns
returns c = record { whole = λ ty r taken admitted. ap single (rose_ring_is r) }
