use Rattle.std.proofs.Common.{◌≤◌, List, length}
use Rattle.bridge_contract.proofs.JoinLemmas.{Raised, Below}
use Rattle.bridge_contract.proofs.joining.join_below.Given as goal

abbrev pub invariant-loop-i : goal.invariant-loop-i
invariant-loop-i g l = record {
  raised : (out : List _) × Raised (g.K.TreeOp.upward l.op) l.parts l.i l.stack.items out;
  below : Below (g.K.TreeOp.upward l.op) l.parts l.i l.out.items;
  within : l.i ≤ length l.parts;
}

abbrev pub decreases-loop-i : goal.decreases-loop-i
decreases-loop-i g l = l.i
