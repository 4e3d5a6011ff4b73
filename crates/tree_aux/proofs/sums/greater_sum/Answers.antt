use Rattle.std.proofs.Common.{◌+◌, FitsSigned, arith}
use Rattle.std.specs.Int.{w128}
use Rattle.std.proofs.lemmas.Int.{to_z-of_z}
use Rattle.tree_aux.specs.SumTreeLaws.{wider}
use Rattle.tree_aux.specs.LongPathLaws.{greater_fits}
use Rattle.tree_aux.proofs.sums.greater_sum.Goals as goal

pub sum_of_two-requires-clause-first : goal.sum_of_two-requires-clause-first
sum_of_two-requires-clause-first g c =
    let fa = c.ranges.a in let fb = c.ranges.b in
    let greater : FitsSigned w128 c.max.result = record { sfits = c.max.type_inv } in
    let is = simp to_z-of_z at c.max.ensures.value in
    let n = c.args._na + c.args._nb in
    simp to_z-of_z (rw is (greater_fits g.row.W c.args.a c.args.b n (wider g.row.W c.args.a c.args._na n (omega arith) c.requires.first) (wider g.row.W c.args.b c.args._nb n (omega arith) c.requires.second)))
