use Rattle.op_laws.proofs.TableEdits.{rows-turned, IsTable-turned}
use Rattle.op_laws.proofs.list.List.reverse.Goals as goal

pub invariant_of-self : goal.invariant_of-self
invariant_of-self c = IsTable-turned c.self.inside.ty c.self.inside.columns c.reverse.new.self c.self.invariant c.reverse.ensures.numbers c.reverse.ensures.kinds

pub returns-clause-items : goal.returns-clause-items
returns-clause-items c = rw (← c.self.view_is) (rows-turned c.self.inside.ty c.self.inside.columns c.reverse.new.self c.self.invariant c.reverse.ensures.numbers)
