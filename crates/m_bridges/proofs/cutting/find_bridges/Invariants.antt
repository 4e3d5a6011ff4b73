use Rattle.std.proofs.Common.{length}
use Rattle.m_bridges.proofs.RestLemmas.{rest_of, Before}
use Rattle.m_bridges.proofs.cutting.find_bridges.Given as goal

abbrev pub invariant-loop-root : goal.invariant-loop-root
invariant-loop-root l = Before l.m l.tree.tree l.todo.items l.out.items

abbrev pub decreases-loop-root : goal.decreases-loop-root
decreases-loop-root l = length (rest_of l.m l.tree.tree l.todo.items)
