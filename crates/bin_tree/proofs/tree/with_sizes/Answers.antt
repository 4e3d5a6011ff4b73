use Rattle.std.proofs.Common.{length, arith, ap, sym, refl, ◌∙◌}
use Rattle.std.proofs.lemmas.List.{take_at}
use Rattle.bin_tree.specs.Trees.{size, is_leaf}
use Rattle.bin_tree.specs.Columns.{tree_from}
use Rattle.bin_tree.proofs.TreeLemmas.{length-kept, length-column}
use Rattle.bin_tree.proofs.TreesFromLemmas.{columns-tree_from}
use Rattle.bin_tree.proofs.tree.with_sizes.Goals as goal

pub fill_sizes-requires-clause-tree : goal.fill_sizes-requires-clause-tree
fill_sizes-requires-clause-tree c =
    let columns = columns-tree_from c.args.leaf.items c.args.values.items c.requires.same c.requires.whole in
    (tree_from c.args.leaf.items c.args.values.items, columns.0 ∙ sym c.deref.ensures.value)

pub invariant_of-result : goal.invariant_of-result
invariant_of-result c =
    let t = tree_from c.args.leaf.items c.args.values.items in
    let columns = columns-tree_from c.args.leaf.items c.args.values.items c.requires.same c.requires.whole in
    let n = length-kept is_leaf c.args.leaf.items t t (sym columns.0) refl in
    let sizes = c.fill_sizes.ensures t (columns.0 ∙ sym c.deref.ensures.value) in
    let m = ap length sizes ∙ length-column size t in
    let a = c.in_ok-sizes.ensures.len in
    record {
      marks = sym columns.0;
      values = sym columns.1;
      sizes = take_at c.fill_sizes.new.sizes _ c.in_ok-sizes.sizes.len (omega (arith, a, n, c.len.ensures, c.args.leaf.ok.0)) ∙ sizes;
      few = let f = c.requires.few in omega (arith, n, f);
    }
