use Rattle.std.proofs.Common.{◌≡◌, ◌+◌, ◌<◌, ◌≤◌, ◌^◌, length, arith, ap, take, get_or}
use Rattle.list_skel.specs.Given.{all_items}
use Rattle.list_skel.proofs.CutLemmas.{items-within}
use Rattle.list_skel.proofs.joining.total_len.Goals as goal

pub overflow_add-n : goal.overflow_add-n
overflow_add-n c =
    let x = c.list-item.result in
    let within = items-within c.args.lists.now c.loop-list.list-index x c.loop-list-test.true in
    let long = ap (λ y. length y.items) c.list-item.is in
    omega (arith, within, long, c.len-n.ensures, c.loop-list.invariant, c.requires)
