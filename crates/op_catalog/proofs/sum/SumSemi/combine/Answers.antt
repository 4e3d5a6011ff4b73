-- The weights keep the sum inside 128 bits.
use Rattle.std.proofs.Common.{arith}
use Rattle.std.proofs.lemmas.Int.{ints}
use Rattle.op_catalog.specs.SumLaws.{sums_signed}
use Rattle.op_catalog.proofs.sum.SumSemi.combine.Goals as goal

pub overflow_add-result : goal.overflow_add-result
overflow_add-result g c = omega (arith, ints, sums_signed g.row.W _ _ _ _ c.requires.few c.requires.first c.requires.second)

pub returns : goal.returns
returns g c = omega (arith, ints, sums_signed g.row.W _ _ _ _ c.requires.few c.requires.first c.requires.second)
