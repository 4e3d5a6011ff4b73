use Rattle.std.proofs.Common.{false, ap, arith, ◌∙◌, sym}
use Rattle.bin_tree.specs.Trees.{is_leaf}
use Rattle.bin_tree.proofs.TreeLemmas.{length-kept, get_or-column, get_or-kept}
use Rattle.bin_tree.proofs.tree.Tree.is_leaf.Goals as goal

pub index-requires : goal.index-requires
index-requires c =
    let n = length-kept is_leaf c.self.inside.leaf.items _ c.args.self.now.tree c.self.invariant.marks (ap (λ x. x.tree) c.self.view_is) in
    omega (arith, c.self.inside.leaf.ok.0)

pub returns : goal.returns
returns c =
    let t = c.args.self.now.tree in
    let leaf = c.index.ensures ∙ get_or-kept is_leaf c.self.inside.leaf.items _ t c.args.i c.index.result.now c.self.invariant.marks (ap (λ x. x.tree) c.self.view_is) c.requires in
    record { value = leaf; mark = leaf ∙ sym (get_or-column is_leaf t c.args.i false c.requires) }
