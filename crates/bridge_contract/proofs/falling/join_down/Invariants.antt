use Rattle.bridge_contract.proofs.FallLemmas.{Falling}
use Rattle.bridge_contract.proofs.falling.join_down.Given as goal

abbrev pub invariant-loop-part : goal.invariant-loop-part
invariant-loop-part g l = Falling (g.D.DownOp.downward l.op) (g.D.DownOp.fits l.op) (g.D.DownOp.fits_way l.op) l.fn.c l.parts l.part-index l.stack.items l.out.items
