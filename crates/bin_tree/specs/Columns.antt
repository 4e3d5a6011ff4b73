-- Trees from their columns: words on the layout, which no public clause cites.
use Rattle.std.specs.Prelude.{◌≡◌, ℕ, zero, suc, ◌<◌, ◌≤◌, ◌^◌, ℤ, Bool, true, false, List, [], ◌∷◌, length, slice_index}
use Rattle.bin_tree.specs.Trees.{BTree, Leaf, Node, size, is_leaf, top, sub_at, column, marks_of}
use Rattle.bin_tree.specs.Roses.{Forest, Bare, Plant, RoseTree, degree}
use Rattle.bin_tree.specs.Roses as rose

-- one node more in front of the trees that follow it
abbrev pub grown : {A : Type 0} → Bool → A → List (BTree A) → List (BTree A)
grown true v ts = Leaf v ∷ ts
grown false v [] = []
grown false v (t ∷ []) = []
grown false v (l ∷ r ∷ ts) = Node v l r ∷ ts

-- the trees, one after another, that have these marks and values in preorder
abbrev pub trees_from : {A : Type 0} → List Bool → List A → List (BTree A)
trees_from [] vs = []
trees_from (m ∷ ms) [] = []
trees_from (m ∷ ms) (v ∷ vs) = grown m v (trees_from ms vs)

-- the first of these trees, or a leaf
abbrev pub first_or : {X : Type 0} → X → List X → X
first_or d [] = d
first_or d (x ∷ xs) = x

-- the tree that has these marks and values in preorder
abbrev pub tree_from : List Bool → List (List ℤ) → BTree (List ℤ)
tree_from ms vs = first_or (Leaf []) (trees_from ms vs)

-- the columns are those of the tree
pub record AreColumns (t : BTree (List ℤ)) (ms : List Bool) (vs : List (List ℤ)) (ss : List ℕ) : Type 0 where
  pub marks : ms ≡ column is_leaf t
  pub values : vs ≡ column top t
  pub sizes : ss ≡ column size t
  pub few : size t < 2 ^ 32

-- from place i on, these are the sizes of the subtrees of a tree with these marks
pub record IsSizedFrom (t : BTree (List ℤ)) (ms : List Bool) (i : ℕ) (ss : List ℕ) : Type 0 where
  pub marks : marks_of t ≡ ms
  pub len : length ss ≡ size t
  pub known : (k : ℕ) → i ≤ k → k < size t → slice_index ss k ≡ size (sub_at t k)

-- the first n trees of a forest
abbrev pub first_trees : {A : Type 0} → ℕ → Forest A → Forest A
first_trees zero f = Bare
first_trees (suc n) Bare = Bare
first_trees (suc n) (Plant a below after) = Plant a below (first_trees n after)

-- a forest without its first n trees
abbrev pub later_trees : {A : Type 0} → ℕ → Forest A → Forest A
later_trees zero f = f
later_trees (suc n) Bare = Bare
later_trees (suc n) (Plant a below after) = later_trees n after

-- one node with n children more, in front of the forest that follows it
abbrev pub planted : {A : Type 0} → ℕ → A → Forest A → Forest A
planted n v f = Plant v (first_trees n f) (later_trees n f)

-- the forest that has these numbers of children and values in preorder
abbrev pub forest_from : {A : Type 0} → List ℕ → List A → Forest A
forest_from [] vs = Bare
forest_from (c ∷ cs) [] = Bare
forest_from (c ∷ cs) (v ∷ vs) = planted c v (forest_from cs vs)

-- the first tree of a forest, or a node with no value
abbrev pub first_rose : Forest (List ℤ) → RoseTree (List ℤ)
first_rose Bare = record { value = []; below = Bare }
first_rose (Plant a below after) = record { value = a; below = below }

-- the rose tree that has these numbers of children and values in preorder
abbrev pub rose_from : List ℕ → List (List ℤ) → RoseTree (List ℤ)
rose_from cs vs = first_rose (forest_from cs vs)

-- the columns are those of the rose tree
pub record AreRoseColumns (r : RoseTree (List ℤ)) (cs : List ℕ) (vs : List (List ℤ)) : Type 0 where
  pub counts : cs ≡ rose.counts_of r
  pub values : vs ≡ rose.values_of r
  pub few : rose.size r < 2 ^ 31
