use Rattle.op_laws.proofs.ColumnLemmas.{can_keep}
use Rattle.op_laws.proofs.TableEdits.{rows-changed, IsTable-changed}
use Rattle.op_laws.proofs.list.List.set.Goals as goal

pub set-requires-clause-can_keep : goal.set-requires-clause-can_keep
set-requires-clause-can_keep c = can_keep c.self.inside.ty c.self.inside.columns c.args.t c.self.invariant.kept (rw (← c.self.view_is) at c.requires.admitted)

pub invariant_of-self : goal.invariant_of-self
invariant_of-self c =
    let admitted = rw (← c.self.view_is) at c.requires.admitted in
    IsTable-changed c.self.inside.ty c.self.inside.columns c.set.new.self c.args.i c.args.t c.self.invariant admitted c.set.ensures.numbers c.set.ensures.kinds

pub returns-clause-items : goal.returns-clause-items
returns-clause-items c =
    let admitted = rw (← c.self.view_is) at c.requires.admitted in
    rw (← c.self.view_is) (rows-changed c.self.inside.ty c.self.inside.columns c.set.new.self c.args.i c.args.t c.self.invariant admitted c.set.ensures.numbers)
