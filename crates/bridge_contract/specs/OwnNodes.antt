-- The own nodes of a bridge, with what hangs below its hole.
use Rattle.std.specs.Prelude.{◌≡◌, ℕ, zero, suc, ◌+◌, ◌-◌, cond, nat_lt, ℤ, List, [], ◌∷◌, ◌++◌, Option, Some, None, map}
use Rattle.op_laws.specs.Trees.{BTree, Leaf, Node, size, sub_at}
use Rattle.op_laws.specs.TreeFolds.{Upward, fold_tree}
use Rattle.m_bridges.specs.Parts.{Part, End, Stop, Join, hung}

-- the subtrees at the own nodes of a part in preorder, with x and y hung below its hole
abbrev pub own_subs : {A : Type 0} → Part A → BTree A → BTree A → List (BTree A)
own_subs (End a) x y = Leaf a ∷ []
own_subs (Stop b) x y = Node b x y ∷ []
own_subs (Join b p q) x y = Node b (hung p x y) (hung q x y) ∷ (own_subs p x y ++ own_subs q x y)

-- the values of the left and the right subtree of the hole; none where there is no hole
abbrev pub AreBelow : {A V G : Type 0} → Upward A V G → BTree A → Option ℕ → Option (V × V) → Type 0
AreBelow k t None below = below ≡ None
AreBelow k t (Some h) below = below ≡ Some (fold_tree k (sub_at t (h + 1)), fold_tree k (sub_at t (h + 1 + size (sub_at t (h + 1)))))

-- the two subtrees of the hole, or two trees that are hung nowhere
abbrev pub left_below : {A : Type 0} → BTree A → Option ℕ → BTree A
left_below t None = t
left_below t (Some h) = sub_at t (h + 1)

abbrev pub right_below : {A : Type 0} → BTree A → Option ℕ → BTree A
right_below t None = t
right_below t (Some h) = sub_at t (h + 1 + size (sub_at t (h + 1)))

-- how many nodes are strictly above the one at a place
abbrev pub depth_at : {A : Type 0} → BTree A → ℕ → ℕ
depth_at (Leaf a) i = 0
depth_at (Node b l r) zero = 0
depth_at (Node b l r) (suc i) = 1 + cond (nat_lt i (size l)) (depth_at l i) (depth_at r (i - size l))
