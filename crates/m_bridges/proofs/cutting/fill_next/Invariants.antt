use Rattle.std.proofs.Common.{◌≤◌}
use Rattle.op_laws.specs.Trees.{size}
use Rattle.m_bridges.specs.Next.{AreNext, IsNext}
use Rattle.m_bridges.proofs.cutting.fill_next.Given as goal

abbrev pub invariant-loop-i : goal.invariant-loop-i
invariant-loop-i l = record {
  next : AreNext l.m l.tree.tree l.i l.next;
  last : IsNext l.m l.tree.tree l.i l.last;
  within : l.i ≤ size l.tree.tree;
}

abbrev pub decreases-loop-i : goal.decreases-loop-i
decreases-loop-i l = l.i
