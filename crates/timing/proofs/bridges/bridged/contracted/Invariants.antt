use Rattle.std.proofs.Common.{take}
use Rattle.op_laws.specs.Laws.{IsElementOf}
use Rattle.bridge_contract.specs.SumsOf.{SumsOf}
use Rattle.timing.proofs.bridges.bridged.contracted.Given as goal

abbrev pub invariant-loop-bridge : goal.invariant-loop-bridge
invariant-loop-bridge g l =
    SumsOf (g.K.TreeOp.upward l.op) (IsElementOf (g.K.TreeOp.takes l.op)) (g.K.TreeOp.fits l.op) (g.K.TreeOp.fits_hole l.op) l.tree.tree (take l.bridge-index l.cut) l.parts.items
