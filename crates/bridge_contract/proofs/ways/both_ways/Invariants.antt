use Rattle.std.proofs.Common.{◌≡◌, ◌+◌, ◌-◌, ◌≤◌, false}
use Rattle.bridge_contract.specs.Ways.{IsOnWay}
use Rattle.bridge_contract.proofs.ways.both_ways.Given as goal

abbrev pub invariant-loop-at : goal.invariant-loop-at
invariant-loop-at g l = record {
  on_way : IsOnWay (g.D.DownOp.downward l.op) (g.D.DownOp.fits l.op) (g.D.DownOp.fits_way l.op) l.tree.tree l.root l.hole l.at l.way;
  steps : l.steps + l.root ≤ l.fn.steps + l.at;
}

abbrev pub decreases-loop-at : goal.decreases-loop-at
decreases-loop-at g l = l.hole - l.at
