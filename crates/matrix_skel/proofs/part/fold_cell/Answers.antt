use Rattle.op_laws.specs.Matrices.{rows_of}
use Rattle.matrix_skel.proofs.PartFolds.{cell-fold}
use Rattle.matrix_skel.proofs.part.fold_cell.Goals as goal

pub lift-requires : goal.lift-requires
lift-requires g c = (c.args.a.now.ty, c.requires.takes, c.at-cell.ensures.admitted)

pub returns : goal.returns
returns g c =
    let m = c.args.a.now in
    let op = c.args.op.now in
    cell-fold (g.met.A.Lifted.lift_laws op) (g.A.Abiding.downwards op) (g.A.Abiding.sideways op) m.ty c.requires.takes m.rows m.cols (rows_of m) c.table.ensures c.args.i c.args.j c.at-cell.result c.lift.result
    c.requires.row c.requires.column c.at-cell.ensures.value c.at-cell.ensures.admitted c.lift.ensures
