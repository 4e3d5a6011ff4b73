use Rattle.op_laws.specs.Laws.{IsElementOf}
use Rattle.std.proofs.Common.{◌≤◌, ◌<◌, ◌+◌, ◌-◌, reverse}
use Rattle.op_laws.specs.declared.TheConstants.{MAX_ELEMENTS}
use Rattle.bridge_contract.specs.Pending.{pending}
use Rattle.m_bridges.specs.Places.{part_at}
use Rattle.bridge_contract.specs.Stacked.{SumsEach}
use Rattle.bridge_contract.proofs.contraction.contract.Given as goal

abbrev pub invariant-loop-k : goal.invariant-loop-k
invariant-loop-k g l = record {
  sums : SumsEach (g.K.TreeOp.upward l.op) (IsElementOf (g.K.TreeOp.takes l.op)) (g.K.TreeOp.fits l.op) (g.K.TreeOp.fits_hole l.op) (pending (part_at l.tree.tree l.bridge) l.k) (reverse l.stack.items);
  within : l.k ≤ l.bridge.own;
  few : l.bridge.own ≤ MAX_ELEMENTS;
  steps : l.steps ≤ l.fn.steps + (l.bridge.own - l.k);
}

abbrev pub decreases-loop-k : goal.decreases-loop-k
decreases-loop-k g l = l.k
