use Rattle.std.proofs.Common.{length}
use Rattle.timing.proofs.eval.sums.sum_narrow.Given as goal

abbrev pub decreases-loop-rest : goal.decreases-loop-rest
decreases-loop-rest l = length l.rest
