use Rattle.std.proofs.Common.{arith}
use Rattle.op_laws.specs.Matrices.{rows_of}
use Rattle.matrix_skel.proofs.PartFolds.{rows-few, part-below}
use Rattle.matrix_skel.proofs.part.join_down.Goals as goal

pub overflow_mul-first : goal.overflow_mul-first
overflow_mul-first g c =
    let w = c.args.whole in
    let m = c.args.a.now in
    omega (arith, rows-few m.rows m.cols w.top c.args.middle w.bottom w.left w.right c.table.ensures.few c.requires.above c.requires.below c.requires.rows c.requires.columns)

pub overflow_mul-second : goal.overflow_mul-second
overflow_mul-second g c =
    let w = c.args.whole in
    let m = c.args.a.now in
    omega (arith, rows-few m.rows m.cols w.top c.args.middle w.bottom w.left w.right c.table.ensures.few c.requires.above c.requires.below c.requires.rows c.requires.columns)

pub down-requires-clause-few : goal.down-requires-clause-few
down-requires-clause-few g c =
    let w = c.args.whole in
    let m = c.args.a.now in
    rows-few m.rows m.cols w.top c.args.middle w.bottom w.left w.right c.table.ensures.few c.requires.above c.requires.below c.requires.rows c.requires.columns

pub down-requires-clause-first : goal.down-requires-clause-first
down-requires-clause-first g c = c.requires.upper.weight

pub down-requires-clause-second : goal.down-requires-clause-second
down-requires-clause-second g c = c.requires.lower.weight

pub returns : goal.returns
returns g c =
    let w = c.args.whole in
    let m = c.args.a.now in
    part-below c.matrices_are_cut.ensures m.ty c.requires.takes m.rows m.cols (rows_of m) c.table.ensures (g.met.A.Abiding.abide_laws c.args.op.now) w.top c.args.middle w.bottom w.left w.right
    c.args.upper c.args.lower c.down.result c.requires.above c.requires.below c.requires.rows c.requires.columns c.requires.upper c.requires.lower c.down.ensures
