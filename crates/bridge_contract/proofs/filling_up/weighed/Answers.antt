use Rattle.std.proofs.Common.{◌≡◌, ◌+◌, ◌<◌, arith}
use Rattle.bridge_contract.proofs.StandLemmas.{ChildrenIn, hole_children}
use Rattle.bridge_contract.proofs.filling_up.weighed.Goals as goal

pub overflow_add-hole : goal.overflow_add-hole
overflow_add-hole g c =
    let h = (hole_children c.args.tree.now.tree c.args.bridge.now c.in-Some-Some.hole c.requires.bridge c.in-Some-Some.is-0).left in let n = c.len-nodes.ensures.value in omega (arith, c.len-nodes.type_inv)

pub size-left-requires : goal.size-left-requires
size-left-requires g c = (hole_children c.args.tree.now.tree c.args.bridge.now c.in-Some-Some.hole c.requires.bridge c.in-Some-Some.is-0).left

pub size-right-requires : goal.size-right-requires
size-right-requires g c =
    let h = (hole_children c.args.tree.now.tree c.args.bridge.now c.in-Some-Some.hole c.requires.bridge c.in-Some-Some.is-0).right in let n = c.size-left.ensures.value in omega arith
