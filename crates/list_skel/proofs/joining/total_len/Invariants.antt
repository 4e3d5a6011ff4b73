use Rattle.std.proofs.Common.{◌≡◌, take, length}
use Rattle.list_skel.specs.Given.{all_items}
use Rattle.list_skel.proofs.joining.total_len.Given as goal

abbrev pub invariant-loop-list : goal.invariant-loop-list
invariant-loop-list l = l.n ≡ length (all_items (take l.list-index l.lists))
