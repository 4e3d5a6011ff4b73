use Rattle.std.proofs.Common.{arith}
use Rattle.op_laws.specs.Matrices.{rows_of}
use Rattle.matrix_skel.proofs.PartFolds.{columns-few, part-beside}
use Rattle.matrix_skel.proofs.part.join_across.Goals as goal

pub overflow_mul-first : goal.overflow_mul-first
overflow_mul-first g c =
    let w = c.args.whole in
    let m = c.args.a.now in
    omega (arith, columns-few m.rows m.cols w.top w.bottom w.left c.args.middle w.right c.table.ensures.few c.requires.rows c.requires.before c.requires.behind c.requires.columns)

pub overflow_mul-second : goal.overflow_mul-second
overflow_mul-second g c =
    let w = c.args.whole in
    let m = c.args.a.now in
    omega (arith, columns-few m.rows m.cols w.top w.bottom w.left c.args.middle w.right c.table.ensures.few c.requires.rows c.requires.before c.requires.behind c.requires.columns)

pub across-requires-clause-few : goal.across-requires-clause-few
across-requires-clause-few g c =
    let w = c.args.whole in
    let m = c.args.a.now in
    columns-few m.rows m.cols w.top w.bottom w.left c.args.middle w.right c.table.ensures.few c.requires.rows c.requires.before c.requires.behind c.requires.columns

pub across-requires-clause-first : goal.across-requires-clause-first
across-requires-clause-first g c = c.requires.left.weight

pub across-requires-clause-second : goal.across-requires-clause-second
across-requires-clause-second g c = c.requires.right.weight

pub returns : goal.returns
returns g c =
    let w = c.args.whole in
    let m = c.args.a.now in
    part-beside c.matrices_are_cut.ensures m.ty c.requires.takes m.rows m.cols (rows_of m) c.table.ensures (g.met.A.Abiding.abide_laws c.args.op.now) w.top w.bottom w.left c.args.middle w.right
    c.args.left c.args.right c.across.result c.requires.before c.requires.behind c.requires.columns c.requires.rows c.requires.left c.requires.right c.across.ensures
