use Rattle.op_laws.proofs.CutLaws.{are_cut}
use Rattle.op_laws.proofs.laws.matrices_are_cut.Goals as goal

pub returns : goal.returns
returns g c = let op = c.args._op.now in are_cut (g.met.A.Lifted.lift_laws op) (g.met.A.Abiding.abide_laws op)
