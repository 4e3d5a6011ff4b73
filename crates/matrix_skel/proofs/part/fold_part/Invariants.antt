use Rattle.op_laws.specs.Matrices.{rows_of}
use Rattle.matrix_skel.specs.Given.{IsPartFold}
use Rattle.matrix_skel.proofs.part.fold_part.Given as goal

abbrev pub invariant-loop-i : goal.invariant-loop-i
invariant-loop-i g l = IsPartFold (g.A.Lifted.fits l.op) (g.A.Lifted.lifted l.op) (g.A.Abiding.downwards l.op) (g.A.Abiding.sideways l.op) (rows_of l.a) l.top l.i l.left l.right l.held
