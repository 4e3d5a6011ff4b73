use Rattle.std.proofs.Common.{arith}
use Rattle.m_bridges.proofs.RestLemmas.{leads, first_like}
use Rattle.m_bridges.proofs.cutting.with_hole.Goals as goal

pub size-requires : goal.size-requires
size-requires c = (leads c.args._m c.args.tree.now.tree c.requires.some c.args.root c.args.at c.requires.within c.requires.next c.requires.found).left

pub overflow_sub-bridge : goal.overflow_sub-bridge
overflow_sub-bridge c =
    let l = (leads c.args._m c.args.tree.now.tree c.requires.some c.args.root c.args.at c.requires.within c.requires.next c.requires.found).below in
    let a = c.size-below.ensures.value in let b = c.size-size.ensures.value in omega arith

pub returns-clause-left : goal.returns-clause-left
returns-clause-left c = (leads c.args._m c.args.tree.now.tree c.requires.some c.args.root c.args.at c.requires.within c.requires.next c.requires.found).left

pub returns-clause-right : goal.returns-clause-right
returns-clause-right c =
    let l = (leads c.args._m c.args.tree.now.tree c.requires.some c.args.root c.args.at c.requires.within c.requires.next c.requires.found).right in
    let a = c.size.ensures.value in omega arith

pub returns-clause-first : goal.returns-clause-first
returns-clause-first c =
    let l = leads c.args._m c.args.tree.now.tree c.requires.some c.args.root c.args.at c.requires.within c.requires.next c.requires.found in
    first_like c.args._m c.args.tree.now.tree c.args.root c.args.at c.size-size.result c.size-below.result c.size.result c.size-size.ensures.value c.size-below.ensures.value c.size.ensures.value l
