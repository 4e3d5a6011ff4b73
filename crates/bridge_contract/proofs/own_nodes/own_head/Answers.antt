use Rattle.std.proofs.Common.{◌≡◌, ◌<◌, ◌+◌, arith, sym, ◌∙◌, ap}
use Rattle.op_laws.specs.Trees.{size, sub_at}
use Rattle.bridge_contract.proofs.CutLemmas.{in_bridge, own_none, own_some, own_some_is}
use Rattle.bridge_contract.proofs.own_nodes.own_head.Goals as goal

pub overflow_add-at : goal.overflow_add-at
overflow_add-at c =
    let b = c.args.bridge.now in
    let w = in_bridge c.args.tree.now.tree b.root b.own c.args.k b.hole c.requires.bridge.within c.requires.bridge.hole c.requires.within in
    omega (arith, c.len-len.ensures.value, c.len-len.type_inv)

pub head_of-requires : goal.head_of-requires
head_of-requires c =
    let b = c.args.bridge.now in
    in_bridge c.args.tree.now.tree b.root b.own c.args.k b.hole c.requires.bridge.within c.requires.bridge.hole c.requires.within

pub head_beside-requires-clause-hole_within : goal.head_beside-requires-clause-hole_within
head_beside-requires-clause-hole_within c = (own_some c.args.tree.now.tree c.args.bridge.now c.args.k c.in-Some.hole c.requires.bridge c.in-Some.is c.requires.within).hole_within

pub head_beside-requires-clause-before : goal.head_beside-requires-clause-before
head_beside-requires-clause-before c = (own_some c.args.tree.now.tree c.args.bridge.now c.args.k c.in-Some.hole c.requires.bridge c.in-Some.is c.requires.within).before

pub head_beside-requires-clause-after : goal.head_beside-requires-clause-after
head_beside-requires-clause-after c = (own_some c.args.tree.now.tree c.args.bridge.now c.args.k c.in-Some.hole c.requires.bridge c.in-Some.is c.requires.within).after

pub returns-in-None : goal.returns-in-None
returns-in-None c = c.head_of.ensures ∙ own_none c.args.tree.now.tree c.args.bridge.now c.args.k c.requires.bridge c.in-None.is c.requires.within

pub returns-in-Some : goal.returns-in-Some
returns-in-Some c = c.head_beside.ensures ∙ own_some_is c.args.tree.now.tree c.args.bridge.now c.args.k c.in-Some.hole c.requires.bridge c.in-Some.is c.requires.within
