-- What each operator on trees means, by its name: a recursion on the whole tree, over whole numbers.
use Rattle.std.specs.Prelude.{ℤ, List}
use Rattle.std.specs.Int.{int_min, int_max}
use Rattle.op_laws.specs.Trees.{BTree}
use Rattle.op_laws.specs.Roses.{RoseTree}
use Rattle.tree_aux.specs.SumTrees.{single, tree_sum, rose_sum, path_step, turns_left, turns_right, pre_left, pre_right}
use Rattle.tree_aux.specs.BoundTrees.{tree_bound, rose_bound, max_step}
use Rattle.tree_aux.specs.LongPaths.{tree_heavy, tree_best, rose_heavy}
use Rattle.tree_aux.specs.WordTrees.{tree_expr, rose_ring, heap_left, heap_right}
use Rattle.tree_names.specs.declared.tree_name.TreeName.{TreeName}
use Rattle.tree_names.specs.declared.tree_name.TreeName.TheVariants as tree
use Rattle.tree_names.specs.declared.down_name.DownName.{DownName}
use Rattle.tree_names.specs.declared.down_name.DownName.TheVariants as down
use Rattle.tree_names.specs.declared.rose_name.RoseName.{RoseName}
use Rattle.tree_names.specs.declared.rose_name.RoseName.TheVariants as rose
use Rattle.tree_names.specs.declared.rose_down_name.RoseDownName.{RoseDownName}
use Rattle.tree_names.specs.declared.rose_down_name.RoseDownName.TheVariants as rose_down

-- the element that a binary tree is reduced to
abbrev pub tree_value : TreeName → BTree (List ℤ) → List ℤ
tree_value tree.Sum t = single (tree_sum t)
tree_value tree.Min t = single (tree_bound int_min t)
tree_value tree.Max t = single (tree_bound int_max t)
tree_value tree.Heavy t = single (tree_heavy t)
tree_value tree.BestSub t = single (tree_best t)
tree_value tree.Expr t = single (tree_expr t)

-- what the number at a node makes, with its element, at its left child
abbrev pub left_step : DownName → ℤ → List ℤ → ℤ
left_step down.PathSum = path_step
left_step down.PathMax = max_step
left_step down.Turns = turns_left
left_step down.HeapIndex = heap_left
left_step down.Pre = pre_left

-- the same at its right child
abbrev pub right_step : DownName → ℤ → List ℤ → ℤ
right_step down.PathSum = path_step
right_step down.PathMax = max_step
right_step down.Turns = turns_right
right_step down.HeapIndex = heap_right
right_step down.Pre = pre_right

-- the element that a rose tree is reduced to
abbrev pub rose_value : RoseName → RoseTree (List ℤ) → List ℤ
rose_value rose.Sum t = single (rose_sum t)
rose_value rose.Max t = single (rose_bound int_max t)
rose_value rose.Min t = single (rose_bound int_min t)
rose_value rose.Heavy t = single (rose_heavy t)
rose_value rose.Ring t = single (rose_ring t)

-- what the number at a node makes, with its element, at each child
abbrev pub child_step : RoseDownName → ℤ → List ℤ → ℤ
child_step rose_down.PathSum = path_step
