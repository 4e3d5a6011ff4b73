use Rattle.std.proofs.Common.{take}
use Rattle.bridge_contract.specs.DownsOf.{DownsOf}
use Rattle.tree_tests.proofs.down.led_down.Given as goal

abbrev pub invariant-loop-bridge : goal.invariant-loop-bridge
invariant-loop-bridge g l =
    DownsOf (g.D.DownOp.downward l.op) (g.D.DownOp.fits l.op) (g.D.DownOp.fits_way l.op) l.tree.tree (take l.bridge-index l.cut) l.parts.items
