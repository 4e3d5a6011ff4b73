-- The skeletons on whole binary trees, by recursion on the tree, with what functions and operators mean as arguments. There is no bridge or worker here.
use Rattle.std.specs.Prelude.{◌≡◌, ℕ, ◌+◌, List, Option, Some, None, refl}
use Rattle.op_laws.specs.Trees.{BTree, Leaf, Node, top, marks_of, values_of}
use Rattle.op_laws.specs.TreeFolds.{fold_by}

-- `leaf` at leaves and `node` at inner nodes
abbrev pub mapped_by_kind : {A B : Type 0} → (A → B) → (A → B) → BTree A → BTree B
mapped_by_kind leaf node (Leaf a) = Leaf (leaf a)
mapped_by_kind leaf node (Node b l r) = Node (node b) (mapped_by_kind leaf node l) (mapped_by_kind leaf node r)

-- the same function at each node
abbrev pub mapped : {A B : Type 0} → (A → B) → BTree A → BTree B
mapped f t = mapped_by_kind f f t

abbrev pub with_children : {A : Type 0} → A → Option (BTree A) → Option (BTree A) → Option (BTree A)
with_children a (Some l) (Some r) = Some (Node a l r)
with_children a x y = None

-- node by node, where the trees have the same shape
abbrev pub zipped : {A B C : Type 0} → (A → B → C) → BTree A → BTree B → Option (BTree C)
zipped f (Leaf a) (Leaf b) = Some (Leaf (f a b))
zipped f (Leaf a) (Node c x y) = None
zipped f (Node b l r) (Leaf a) = None
zipped f (Node b l r) (Node c x y) = with_children (f b c) (zipped f l x) (zipped f r y)

-- at each node what its subtree comes to
abbrev pub put_up : {A X : Type 0} → (A → X) → (X → A → X → X) → BTree A → BTree X
put_up leaf node (Leaf a) = Leaf (leaf a)
put_up leaf node (Node b l r) = Node (fold_by leaf node (Node b l r)) (put_up leaf node l) (put_up leaf node r)

-- c at the root, and at its children what `left` and `right` make of a node's own
abbrev pub put_down : {A X : Type 0} → (X → A → X) → (X → A → X) → X → BTree A → BTree X
put_down left right c (Leaf a) = Leaf c
put_down left right c (Node b l r) = Node c (put_down left right (left c b) l) (put_down left right (right c b) r)

-- at inner nodes the value of the left child, and c at leaves; the same of the right child
abbrev pub left_values : {A : Type 0} → A → BTree A → BTree A
left_values c (Leaf a) = Leaf c
left_values c (Node b l r) = Node (top l) (left_values c l) (left_values c r)

abbrev pub right_values : {A : Type 0} → A → BTree A → BTree A
right_values c (Leaf a) = Leaf c
right_values c (Node b l r) = Node (top r) (right_values c l) (right_values c r)

-- what these have to do with the columns of a tree: the marks stay, and the values are those that were said by lists
pub record KeepsShape {A B : Type 0} (t : BTree A) (u : BTree B) (said : List B) : Type 0 where
  pub marks : marks_of u ≡ marks_of t
  pub values : values_of u ≡ said

-- worked rows

abbrev five : BTree ℕ
five = Node 1 (Leaf 2) (Node 3 (Leaf 4) (Leaf 5))

sums : put_up (λ a. a) (λ x b y. x + b + y) five ≡ Node 15 (Leaf 2) (Node 12 (Leaf 4) (Leaf 5))
sums = refl

depths : put_down (λ c b. c + 1) (λ c b. c + 1) 0 five ≡ Node 0 (Leaf 1) (Node 1 (Leaf 2) (Leaf 2))
depths = refl

lefts : left_values 0 five ≡ Node 2 (Leaf 0) (Node 4 (Leaf 0) (Leaf 0))
lefts = refl

rights : right_values 0 five ≡ Node 3 (Leaf 0) (Node 5 (Leaf 0) (Leaf 0))
rights = refl

pairs : zipped (λ a b. a + b) five five ≡ Some (Node 2 (Leaf 4) (Node 6 (Leaf 8) (Leaf 10)))
pairs = refl

other_shape : zipped (λ a b. a + b) five (Leaf 1) ≡ None
other_shape = refl
