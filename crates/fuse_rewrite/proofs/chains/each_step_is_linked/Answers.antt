use Rattle.fuse_rewrite.proofs.LinkLemmas.{each_linked, each_from_head, each_in_order, each_printed}
use Rattle.fuse_rewrite.proofs.chains.each_step_is_linked.Goals as goal

pub returns-clause-linked : goal.returns-clause-linked
returns-clause-linked c = each_linked

pub returns-clause-from_head : goal.returns-clause-from_head
returns-clause-from_head c = each_from_head

pub returns-clause-in_order : goal.returns-clause-in_order
returns-clause-in_order c = each_in_order

pub returns-clause-printed : goal.returns-clause-printed
returns-clause-printed c = each_printed
