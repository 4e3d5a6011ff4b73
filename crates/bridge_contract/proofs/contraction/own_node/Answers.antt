use Rattle.std.proofs.Common.{◌≡◌, ◌<◌, ◌+◌, arith, sym, ◌∙◌, ap}
use Rattle.op_laws.specs.Trees.{size, sub_at}
use Rattle.bridge_contract.proofs.CutLemmas.{in_bridge, own_none, own_some, own_some_is}
use Rattle.bridge_contract.proofs.contraction.own_node.Goals as goal

pub overflow_add-at : goal.overflow_add-at
overflow_add-at g c =
    let b = c.args.bridge.now in
    let w = in_bridge c.args.tree.now.tree b.root b.own c.args.k b.hole c.requires.bridge.within c.requires.bridge.hole c.requires.within in
    omega (arith, c.len-len.ensures.value, c.len-len.type_inv)

pub tree_node-requires : goal.tree_node-requires
tree_node-requires g c =
    let b = c.args.bridge.now in
    in_bridge c.args.tree.now.tree b.root b.own c.args.k b.hole c.requires.bridge.within c.requires.bridge.hole c.requires.within

pub beside_hole-requires-clause-hole_within : goal.beside_hole-requires-clause-hole_within
beside_hole-requires-clause-hole_within g c = (own_some c.args.tree.now.tree c.args.bridge.now c.args.k c.in-Some.hole c.requires.bridge c.in-Some.is c.requires.within).hole_within

pub beside_hole-requires-clause-before : goal.beside_hole-requires-clause-before
beside_hole-requires-clause-before g c = (own_some c.args.tree.now.tree c.args.bridge.now c.args.k c.in-Some.hole c.requires.bridge c.in-Some.is c.requires.within).before

pub beside_hole-requires-clause-after : goal.beside_hole-requires-clause-after
beside_hole-requires-clause-after g c = (own_some c.args.tree.now.tree c.args.bridge.now c.args.k c.in-Some.hole c.requires.bridge c.in-Some.is c.requires.within).after

pub returns-in-None-clause-head : goal.returns-in-None-clause-head
returns-in-None-clause-head g c = c.tree_node.ensures.head ∙ own_none c.args.tree.now.tree c.args.bridge.now c.args.k c.requires.bridge c.in-None.is c.requires.within

pub returns-in-Some-clause-head : goal.returns-in-Some-clause-head
returns-in-Some-clause-head g c = c.beside_hole.ensures.head ∙ own_some_is c.args.tree.now.tree c.args.bridge.now c.args.k c.in-Some.hole c.requires.bridge c.in-Some.is c.requires.within
