use Rattle.std.proofs.Common.{◌+◌}
use Rattle.op_laws.specs.Matrices.{rows_of}
use Rattle.matrix_skel.specs.Given.{IsPartFold}
use Rattle.matrix_skel.proofs.part.fold_row.Given as goal

abbrev pub invariant-loop-j : goal.invariant-loop-j
invariant-loop-j g l = IsPartFold (g.A.Lifted.fits l.op) (g.A.Lifted.lifted l.op) (g.A.Abiding.downwards l.op) (g.A.Abiding.sideways l.op) (rows_of l.a) l.i (l.i + 1) l.left l.j l.held
