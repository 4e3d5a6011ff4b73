use Rattle.std.proofs.Common.{arith}
use Rattle.std.proofs.lemmas.Nat.{mul-le}
use Rattle.matrix_skel.proofs.squares.Squares.of.Goals as goal

pub overflow_mul-count : goal.overflow_mul-count
overflow_mul-count c =
    let m = c.args.a.now in
    omega (arith, mul-le c.count.result c.count-2.result m.rows m.cols (omega arith) (omega arith), c.rows.ensures.grid.full, c.rows.ensures.grid.few)
