use Rattle.std.proofs.Common.{◌≡◌, ◌≤◌, ℤ, List, length}
use Rattle.bin_tree.specs.Trees.{BTree, marks_of}
use Rattle.bin_tree.specs.Columns.{IsSizedFrom}
use Rattle.bin_tree.proofs.tree.fill_sizes.Given as goal

abbrev pub invariant-loop-i : goal.invariant-loop-i
invariant-loop-i l = record {
  sized : (t : BTree (List ℤ)) → marks_of t ≡ l.leaf → IsSizedFrom t l.leaf l.i l.sizes;
  within : l.i ≤ length l.leaf;
}

abbrev pub decreases-loop-i : goal.decreases-loop-i
decreases-loop-i l = l.i
