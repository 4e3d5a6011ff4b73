use Rattle.std.proofs.Common.{◌+◌, ap, sym, ◌∙◌, arith}
use Rattle.bin_tree.specs.Trees.{sub_at, top}
use Rattle.tree_accumulate.proofs.ChildLemmas.{inner_at}
use Rattle.tree_accumulate.proofs.children.right_value.Goals as goal

pub size-requires : goal.size-requires
size-requires c = let n = inner_at c.args.t.now.tree c.args._leaf c.args.i c.requires.within c.requires.inner in n.left_within

pub value-requires : goal.value-requires
value-requires c =
    let n = inner_at c.args.t.now.tree c.args._leaf c.args.i c.requires.within c.requires.inner in
    let w = n.right_within in let s = c.size.ensures.value in omega arith

pub returns-clause-value : goal.returns-clause-value
returns-clause-value c =
    let t = c.args.t.now.tree in
    let n = inner_at t c.args._leaf c.args.i c.requires.within c.requires.inner in
    c.value.ensures.value ∙ ap (λ k. top (sub_at t (c.args.i + 1 + k))) c.size.ensures.value ∙ sym n.right
