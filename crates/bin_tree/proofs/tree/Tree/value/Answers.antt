use Rattle.std.proofs.Common.{[], ap, arith, ◌∙◌}
use Rattle.bin_tree.specs.Trees.{top}
use Rattle.bin_tree.proofs.TreeLemmas.{length-kept, get_or-kept}
use Rattle.bin_tree.proofs.tree.Tree.value.Goals as goal

pub at-requires : goal.at-requires
at-requires c =
    let n = length-kept top c.self.inside.values.items _ c.args.self.now.tree c.self.invariant.values (ap (λ x. x.tree) c.self.view_is) in
    omega (arith, c.requires)

pub returns-clause-value : goal.returns-clause-value
returns-clause-value c =
    c.at.ensures.value ∙ get_or-kept top c.self.inside.values.items _ c.args.self.now.tree c.args.i [] c.self.invariant.values (ap (λ x. x.tree) c.self.view_is) c.requires
