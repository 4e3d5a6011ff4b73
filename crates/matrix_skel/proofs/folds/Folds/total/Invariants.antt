use Rattle.op_laws.specs.Matrices.{rows_of}
use Rattle.matrix_skel.specs.Blocks.{cut_at}
use Rattle.matrix_skel.specs.Given.{IsPartFold}
use Rattle.matrix_skel.proofs.folds.Folds.total.Given as goal

abbrev pub invariant-loop-p : goal.invariant-loop-p
invariant-loop-p g l = IsPartFold (g.A.Lifted.fits l.self.op.now) (g.A.Lifted.lifted l.self.op.now) (g.A.Abiding.downwards l.self.op.now) (g.A.Abiding.sideways l.self.op.now) (rows_of l.self.a.now) 0 (cut_at l.self.squares.down.len l.self.squares.down.block l.p) 0 l.right l.held
