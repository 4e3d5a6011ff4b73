-- What is made of a tree from its leaves up, and what comes down it from its root.
use Rattle.std.specs.Prelude.{◌≡◌, ℤ, List, [], ◌∷◌, ◌++◌}
use Rattle.op_laws.specs.declared.width.Width.{Width}
use Rattle.op_laws.specs.Admits.{Admits}
use Rattle.op_laws.specs.Trees.{BTree, Leaf, Node, Each}

-- `leaf` of a leaf's value, and `node` of an inner node's value between what is made of its two subtrees
abbrev pub fold_by : {A X : Type 0} → (A → X) → (X → A → X → X) → BTree A → X
fold_by leaf node (Leaf a) = leaf a
fold_by leaf node (Node b l r) = node (fold_by leaf node l) b (fold_by leaf node r)

-- at each node, in preorder: c at the root, and what `left` and `right` make of a node's own for its children
abbrev pub down_by : {A X : Type 0} → (X → A → X) → (X → A → X) → X → BTree A → List X
down_by left right c (Leaf a) = c ∷ []
down_by left right c (Node b l r) = c ∷ (down_by left right (left c b) l ++ down_by left right (right c b) r)

-- how values go up. A node whose children's values aren't known yet is a g: `node x g y` is its value once they are x and y.
-- `hole_left h g r` is the same of a node g with the value r of its right child, below whose left child the hole of h is;
-- `hole_right l g h` is that of a node with the value l of its left child and the hole on the right
pub record Upward (A V G : Type 0) : Type 0 where
  pub leaf : A → V
  pub phi : A → G
  pub node : V → G → V → V
  pub hole_left : G → G → V → G
  pub hole_right : V → G → G → G

-- the value of a tree
abbrev pub fold_tree : {A V G : Type 0} → Upward A V G → BTree A → V
fold_tree k t = fold_by k.leaf (λ l b r. k.node l (k.phi b) r) t

-- how values come down: `left` and `right` are the steps from a node to its children, `then` is one step after another,
-- and `down c d` is what c becomes on the way d
pub record Downward (A V D : Type 0) : Type 0 where
  pub start : ℤ → V
  pub left : A → D
  pub right : A → D
  pub then : D → D → D
  pub down : V → D → V

-- the values at the nodes in preorder, with c at the root
abbrev pub values_down : {A V D : Type 0} → Downward A V D → V → BTree A → List V
values_down k c t = down_by (λ v b. k.down v (k.left b)) (λ v b. k.down v (k.right b)) c t

-- for each tree the finished fold is what `value` says of the whole tree
pub record ReducesTree {V G : Type 0} (takes : List Width → Type 0) (finished : V → List ℤ) (k : Upward (List ℤ) V G) (value : BTree (List ℤ) → List ℤ) : Type 0 where
  pub whole : (ty : List Width) (t : BTree (List ℤ)) → takes ty → Each (Admits ty) t → finished (fold_tree k t) ≡ value t
