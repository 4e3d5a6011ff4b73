use Rattle.std.proofs.Common.{ap, refl, sym, ◌∙◌}
use Rattle.bin_tree.specs.Trees.{size, marks_of}
use Rattle.bin_tree.specs.Columns.{tree_from}
use Rattle.bin_tree.proofs.ShapeLemmas.{reshaped}
use Rattle.bin_tree.proofs.tree.Tree.reshape.Goals as goal

pub invariant_of-result : goal.invariant_of-result
invariant_of-result c =
    let t = tree_from c.self.inside.leaf.items c.self.inside.values.items in
    reshaped t c.in_ok-leaf.leaf.items c.args.values.items c.in_ok-sizes.sizes.items
    (c.in_ok-leaf.ensures.items ∙ c.deref.ensures.value ∙ c.self.invariant.marks)
    (c.in_ok-sizes.ensures.items ∙ c.deref-2.ensures.value ∙ c.self.invariant.sizes)
    c.self.invariant.few
    (c.requires ∙ sym (ap (λ x. size x.tree) c.self.view_is))

pub returns : goal.returns
returns c =
    let t = tree_from c.self.inside.leaf.items c.self.inside.values.items in
    let marks = c.in_ok-leaf.ensures.items ∙ c.deref.ensures.value ∙ c.self.invariant.marks in
    let columns = reshaped t c.in_ok-leaf.leaf.items c.args.values.items c.in_ok-sizes.sizes.items marks
    (c.in_ok-sizes.ensures.items ∙ c.deref-2.ensures.value ∙ c.self.invariant.sizes)
    c.self.invariant.few
    (c.requires ∙ sym (ap (λ x. size x.tree) c.self.view_is)) in
    record { ty = refl; marks = sym columns.marks ∙ marks ∙ ap (λ x. marks_of x.tree) c.self.view_is; values = sym columns.values }
