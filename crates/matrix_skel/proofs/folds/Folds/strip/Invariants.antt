use Rattle.op_laws.specs.Matrices.{rows_of}
use Rattle.matrix_skel.specs.Blocks.{cut_at}
use Rattle.matrix_skel.specs.Given.{IsPartFold}
use Rattle.matrix_skel.proofs.folds.Folds.strip.Given as goal

abbrev pub invariant-loop-q : goal.invariant-loop-q
invariant-loop-q g l = IsPartFold (g.A.Lifted.fits l.self.op.now) (g.A.Lifted.lifted l.self.op.now) (g.A.Abiding.downwards l.self.op.now) (g.A.Abiding.sideways l.self.op.now) (rows_of l.self.a.now) l.top l.bottom 0 (cut_at l.self.squares.right.len l.self.squares.right.block l.q) l.held
