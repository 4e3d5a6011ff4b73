use Rattle.std.proofs.Common.{ap, arith, ◌∙◌}
use Rattle.bin_tree.specs.Trees.{size}
use Rattle.bin_tree.proofs.TreeLemmas.{within_at, length-kept, get_or-kept}
use Rattle.bin_tree.proofs.tree.Tree.size.Goals as goal

pub index-requires : goal.index-requires
index-requires c =
    let n = length-kept size c.self.inside.sizes.items _ c.args.self.now.tree c.self.invariant.sizes (ap (λ x. x.tree) c.self.view_is) in
    omega (arith, c.self.inside.sizes.ok.0)

pub returns : goal.returns
returns c =
    let t = c.args.self.now.tree in
    let is = c.index.ensures ∙ get_or-kept size c.self.inside.sizes.items _ t c.args.i c.index.result.now c.self.invariant.sizes (ap (λ x. x.tree) c.self.view_is) c.requires in
    record {
      value = is;
      within = let w = within_at t c.args.i c.requires in omega arith;
      few = let s = ap (λ x. size x.tree) c.self.view_is in let f = c.self.invariant.few in omega arith;
    }
