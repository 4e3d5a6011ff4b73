use Rattle.std.proofs.Common.{arith}
use Rattle.bin_tree.proofs.SizeLemmas.{size_of_leaf, size_of_node}
use Rattle.bin_tree.proofs.tree.size_at.Goals as goal

pub returns-then-leaf-i : goal.returns-then-leaf-i
returns-then-leaf-i c = λ t s. size_of_leaf t c.args.leaf.now c.args.i c.args.sizes.now c.requires.within s c.if-leaf-i.true

pub bounds-sizes-i : goal.bounds-sizes-i
bounds-sizes-i c = let (t, s) = c.requires.tree in (size_of_node t c.args.leaf.now c.args.i c.args.sizes.now c.requires.within s c.if-leaf-i.false).0

pub bounds-sizes-i-2 : goal.bounds-sizes-i-2
bounds-sizes-i-2 c = let (t, s) = c.requires.tree in (size_of_node t c.args.leaf.now c.args.i c.args.sizes.now c.requires.within s c.if-leaf-i.false).1

pub overflow_add-result : goal.overflow_add-result
overflow_add-result c =
    let (t, s) = c.requires.tree in
    let few = (size_of_node t c.args.leaf.now c.args.i c.args.sizes.now c.requires.within s c.if-leaf-i.false).2 in omega arith

pub overflow_add-result-2 : goal.overflow_add-result-2
overflow_add-result-2 c =
    let (t, s) = c.requires.tree in
    let few = (size_of_node t c.args.leaf.now c.args.i c.args.sizes.now c.requires.within s c.if-leaf-i.false).2 in omega arith

pub returns : goal.returns
returns c = λ t s. (size_of_node t c.args.leaf.now c.args.i c.args.sizes.now c.requires.within s c.if-leaf-i.false).3
