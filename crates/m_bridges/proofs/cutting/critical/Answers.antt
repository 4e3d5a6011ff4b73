use Rattle.std.proofs.Common.{arith, sym, false}
use Rattle.op_laws.specs.Trees.{sub_at}
use Rattle.m_bridges.proofs.FirstLemmas.{critical_small, inner_size, has_child, child_less, fewer_is, means_as}
use Rattle.m_bridges.proofs.cutting.critical.Goals as goal

pub returns-then-n-m-clause-value : goal.returns-then-n-m-clause-value
returns-then-n-m-clause-value c =
    let small = c.if-n-m.true in let e = c.size-n.ensures.value in
    sym (critical_small c.args.m (sub_at c.args.tree.now.tree c.args.i) c.requires.some (omega arith))

pub returns-then-n-m-clause-meaning : goal.returns-then-n-m-clause-meaning
returns-then-n-m-clause-meaning c =
    let small = c.if-n-m.true in let e = c.size-n.ensures.value in
    means_as c.args.m c.args.tree.now.tree c.args.i false (sym (critical_small c.args.m (sub_at c.args.tree.now.tree c.args.i) c.requires.some (omega arith)))

pub overflow_add-i : goal.overflow_add-i
overflow_add-i c =
    let p = has_child c.args.m c.args.tree.now.tree c.args.i c.size-n.result c.requires.within c.size-n.ensures.value (inner_size c.args.m c.size-n.result c.requires.some c.if-n-m.false) in
    let w = c.size-n.ensures.few in omega arith

pub size-requires : goal.size-requires
size-requires c = has_child c.args.m c.args.tree.now.tree c.args.i c.size-n.result c.requires.within c.size-n.ensures.value (inner_size c.args.m c.size-n.result c.requires.some c.if-n-m.false)

pub both_fewer-requires-clause-within : goal.both_fewer-requires-clause-within
both_fewer-requires-clause-within c =
    child_less c.args.m c.args.tree.now.tree c.args.i c.size-n.result c.size.result c.requires.within c.size-n.ensures.value
    (inner_size c.args.m c.size-n.result c.requires.some c.if-n-m.false) c.size.ensures.value

pub returns-clause-value : goal.returns-clause-value
returns-clause-value c =
    fewer_is c.args.m c.args.tree.now.tree c.args.i c.size-n.result c.size.result c.both_fewer.result c.requires.within c.size-n.ensures.value
    (inner_size c.args.m c.size-n.result c.requires.some c.if-n-m.false) c.size.ensures.value c.both_fewer.ensures

pub returns-clause-meaning : goal.returns-clause-meaning
returns-clause-meaning c =
    means_as c.args.m c.args.tree.now.tree c.args.i c.both_fewer.result
    (fewer_is c.args.m c.args.tree.now.tree c.args.i c.size-n.result c.size.result c.both_fewer.result c.requires.within c.size-n.ensures.value
    (inner_size c.args.m c.size-n.result c.requires.some c.if-n-m.false) c.size.ensures.value c.both_fewer.ensures)
