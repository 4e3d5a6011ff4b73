-- What a node gets that takes the value of one of its children: words on how skeletons are computed, which no public clause cites.
use Rattle.std.specs.Prelude.{Bool, true, false}
use Rattle.op_laws.specs.Trees.{BTree, Leaf, Node, top}

-- the value of the right child, or of the left one; c at a leaf
abbrev pub child_at : {A : Type 0} → Bool → A → BTree A → A
child_at right c (Leaf a) = c
child_at true c (Node b l r) = top r
child_at false c (Node b l r) = top l
