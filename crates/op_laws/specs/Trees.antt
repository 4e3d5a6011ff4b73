-- Binary trees, and what stands at the places of their preorder.
use Rattle.std.specs.Prelude.{ℕ, zero, suc, ◌+◌, ◌-◌, Bool, true, false, cond, nat_lt, List, [], ◌∷◌, ◌++◌}

-- a leaf with its value, or an inner node with its value and two subtrees
pub data BTree (A : Type 0) : Type 0 where
  Leaf : A → BTree A
  Node : A → BTree A → BTree A → BTree A

-- how many nodes there are, leaves and inner nodes
abbrev pub size : {A : Type 0} → BTree A → ℕ
size (Leaf a) = 1
size (Node b l r) = 1 + size l + size r

-- the tree is one leaf
abbrev pub is_leaf : {A : Type 0} → BTree A → Bool
is_leaf (Leaf a) = true
is_leaf (Node b l r) = false

-- the value of the root
abbrev pub top : {A : Type 0} → BTree A → A
top (Leaf a) = a
top (Node b l r) = b

-- the subtree whose root has this place in the preorder, from 0 on
abbrev pub sub_at : {A : Type 0} → BTree A → ℕ → BTree A
sub_at (Leaf a) i = Leaf a
sub_at (Node b l r) zero = Node b l r
sub_at (Node b l r) (suc i) = cond (nat_lt i (size l)) (sub_at l i) (sub_at r (i - size l))

-- what f says of each subtree, in preorder of their roots
abbrev pub column : {A X : Type 0} → (BTree A → X) → BTree A → List X
column f (Leaf a) = f (Leaf a) ∷ []
column f (Node b l r) = f (Node b l r) ∷ (column f l ++ column f r)

-- the marks in preorder, `true` for a leaf
abbrev pub marks_of : {A : Type 0} → BTree A → List Bool
marks_of t = column is_leaf t

-- the values in preorder
abbrev pub values_of : {A : Type 0} → BTree A → List A
values_of t = column top t

-- P holds of the value of each node
abbrev pub Each : {A : Type 0} → (A → Type 0) → BTree A → Type 0
Each P (Leaf a) = P a
Each P (Node b l r) = P b × Each P l × Each P r
