use Rattle.std.proofs.Common.{◌+◌, ◌<◌, ◌^◌, length, ap, arith, ◌∙◌}
use Rattle.op_laws.specs.Rows.{rows}
use Rattle.op_laws.specs.Columns.{numbers}
use Rattle.op_laws.proofs.ColumnLemmas.{can_keep}
use Rattle.op_laws.proofs.TableLemmas.{rows-longer, IsTable-longer}
use Rattle.op_laws.proofs.list.List.push.Goals as goal

pub put-requires-clause-can_keep : goal.put-requires-clause-can_keep
put-requires-clause-can_keep c =
    let admitted = rw (← c.self.view_is) at c.requires.admitted in
    can_keep c.self.inside.ty c.reserve.new.self c.args.t (c.reserve.ensures.kinds ∙ c.self.invariant.kept) admitted

pub invariant_of-self-2 : goal.invariant_of-self-2
invariant_of-self-2 c =
    let admitted = rw (← c.self.view_is) at c.requires.admitted in
    let longer = rw c.reserve.ensures.numbers at c.put.ensures.numbers in
    let few : length (rows (numbers c.self.inside.columns)) + 1 < 2 ^ 32 = omega (arith, c.requires.room, ap (λ x. length x.items) c.self.view_is) in
    IsTable-longer c.self.inside.ty c.self.inside.columns c.put.new.self c.args.t c.self.invariant admitted longer (c.put.ensures.kinds ∙ c.reserve.ensures.kinds) few

pub returns-clause-ok : goal.returns-clause-ok
returns-clause-ok c =
    let admitted = rw (← c.self.view_is) at c.requires.admitted in
    let longer = rw c.reserve.ensures.numbers at c.put.ensures.numbers in
    rw (← c.self.view_is) (rows-longer c.self.inside.ty c.self.inside.columns c.put.new.self c.args.t c.self.invariant admitted longer)
