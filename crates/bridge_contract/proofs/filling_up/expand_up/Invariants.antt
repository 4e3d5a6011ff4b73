use Rattle.std.proofs.Common.{◌≡◌, ◌+◌, ◌≤◌, length}
use Rattle.op_laws.specs.Laws.{IsElementOf}
use Rattle.m_bridges.specs.Places.{part_at}
use Rattle.bridge_contract.specs.Pending.{pending}
use Rattle.bridge_contract.specs.OwnNodes.{left_below, right_below}
use Rattle.bridge_contract.proofs.Laws.{laws_of}
use Rattle.bridge_contract.proofs.StandLemmas.{IsStanding}
use Rattle.bridge_contract.proofs.filling_up.expand_up.Given as goal

abbrev pub invariant-loop-k : goal.invariant-loop-k
invariant-loop-k g l = record {
  standing : IsStanding (g.K.TreeOp.upward l.op) (IsElementOf (g.K.TreeOp.takes l.op)) (g.K.TreeOp.fits l.op) (g.K.TreeOp.fits_hole l.op) (laws_of (g.met.K.TreeOp.upward_laws l.op)) (g.K.TreeOp.finished l.op)
      (left_below l.tree.tree l.bridge.hole) (right_below l.tree.tree l.bridge.hole) (pending (part_at l.tree.tree l.bridge) l.k) l.stack.items l.out.items;
  within : l.k ≤ l.bridge.own;
  len : length l.out.items + l.k ≡ l.bridge.own;
  ty : l.out.ty ≡ g.K.TreeOp.gives l.op l.tree.ty;
}

abbrev pub decreases-loop-k : goal.decreases-loop-k
decreases-loop-k g l = l.k
