use Rattle.std.proofs.Common.{◌≤◌, length, arith}
use Rattle.list_fusion.proofs.ColumnLemmas.{first-singles}
use Rattle.list_fusion.proofs.columns.first_column.Goals as goal

pub returns-clause-value : goal.returns-clause-value
returns-clause-value c = λ es h.
    let some : 1 ≤ length c.args.columns.now = omega (arith, c.told-columns) in
    first-singles c.args.columns.now c.args.count es c.front_of.result.now some c.front_of.ensures.value c.front_of.ensures.long h
