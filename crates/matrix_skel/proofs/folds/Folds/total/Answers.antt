use Rattle.std.proofs.Common.{◌≡◌, ap, sym, ◌∙◌, arith}
use Rattle.op_laws.specs.Matrices.{rows_of}
use Rattle.op_laws.specs.Folds.{fold_rows}
use Rattle.matrix_skel.specs.Blocks.{part, cut_at}
use Rattle.matrix_skel.proofs.PartFolds.{whole-part}
use Rattle.matrix_skel.proofs.folds.Folds.total.Goals as goal

pub returns-clause-value : goal.returns-clause-value
returns-clause-value g c =
    let b = c.args.self.now in
    let down = b.squares.down in
    let m = b.a.now in
    let fold = fold_rows (g.A.Lifted.lifted b.op.now) (g.A.Abiding.downwards b.op.now) (g.A.Abiding.sideways b.op.now) in
    let done : c.loop-p.p ≡ down.count = omega arith in
    let last : cut_at down.len down.block down.count ≡ m.rows = omega (arith, down.covers, b.rows) in
    let bottom : cut_at down.len down.block c.loop-p.p ≡ m.rows = ap (cut_at down.len down.block) done ∙ last in
    let right : c.len-right.result ≡ m.cols = c.len-right.ensures.value ∙ b.cols in
    ap fold (sym (whole-part m.ty m.rows m.cols (rows_of m) c.table.ensures))
    ∙ ap (λ k. fold (part (rows_of m) 0 k 0 m.cols)) (sym bottom)
    ∙ ap (λ l. fold (part (rows_of m) 0 (cut_at down.len down.block c.loop-p.p) 0 l)) (sym right)
    ∙ c.loop-p.invariant.value
