use Rattle.std.proofs.Common.{ap, arith, ◌∙◌, sym}
use Rattle.bin_tree.specs.Trees.{is_leaf, top}
use Rattle.bin_tree.proofs.TreeLemmas.{size_pos, length-column, length-kept}
use Rattle.bin_tree.proofs.tree.Tree.len.Goals as goal

pub returns : goal.returns
returns c =
    let t = c.args.self.now.tree in
    let nodes = c.len.ensures ∙ length-kept top c.self.inside.values.items _ t c.self.invariant.values (ap (λ x. x.tree) c.self.view_is) in
    record {
      value = nodes;
      some = let p = size_pos t in omega arith;
      marks = length-column is_leaf t ∙ sym nodes;
      values = length-column top t ∙ sym nodes;
    }
