-- The weights keep the sum inside 128 bits.
use Rattle.std.proofs.Common.{arith}
use Rattle.std.proofs.lemmas.Int.{ints}
use Rattle.op_catalog.specs.SumLaws.{sums_signed}
use Rattle.tree_aux.proofs.sums.sum_of_two.Goals as goal

pub overflow_add-result : goal.overflow_add-result
overflow_add-result g c = omega (arith, ints, sums_signed g.row.W _ _ _ _ c.requires.few c.requires.first c.requires.second)

pub returns-clause-value : goal.returns-clause-value
returns-clause-value g c = omega (arith, ints, sums_signed g.row.W _ _ _ _ c.requires.few c.requires.first c.requires.second)

pub returns-clause-fits : goal.returns-clause-fits
returns-clause-fits g c =
    let signed = sums_signed g.row.W _ _ _ _ c.requires.few c.requires.first c.requires.second in
    record {
      low = omega (arith, ints, signed, c.requires.first.low, c.requires.second.low);
      high = omega (arith, ints, signed, c.requires.first.high, c.requires.second.high);
    }
