-- A binary tree of five nodes and a rose tree of four, worked out.
use Rattle.std.proofs.Common.{◌≡◌, ℕ, ℤ, pos, Bool, true, false, List, [], ◌∷◌, map, take, refl}
use Rattle.bin_tree.specs.Trees.{BTree, Leaf, Node, size, sub_at, column, marks_of, values_of}
use Rattle.bin_tree.specs.Roses.{Forest, Bare, Plant, RoseTree, children_of}
use Rattle.bin_tree.specs.Roses as rose
use Rattle.bin_tree.specs.Places.{open_after, arity}
use Rattle.bin_tree.specs.Columns.{tree_from, rose_from}

-- the number n as an element
abbrev one : ℕ → List ℤ
one n = pos n ∷ []

-- N 1, L 2, N 3, L 4, L 5
abbrev marks : List Bool
marks = false ∷ true ∷ false ∷ true ∷ true ∷ []

abbrev values : List (List ℤ)
values = one 1 ∷ one 2 ∷ one 3 ∷ one 4 ∷ one 5 ∷ []

abbrev tree : BTree (List ℤ)
tree = Node (one 1) (Leaf (one 2)) (Node (one 3) (Leaf (one 4)) (Leaf (one 5)))

tree_marks : marks_of tree ≡ marks
tree_marks = refl

tree_values : values_of tree ≡ values
tree_values = refl

tree_sizes : column size tree ≡ 5 ∷ 1 ∷ 3 ∷ 1 ∷ 1 ∷ []
tree_sizes = refl

tree_right : sub_at tree 2 ≡ Node (one 3) (Leaf (one 4)) (Leaf (one 5))
tree_right = refl

tree_read : tree_from marks values ≡ tree
tree_read = refl

tree_places : map (λ i. open_after 1 (take i (map arity marks))) (0 ∷ 1 ∷ 2 ∷ 3 ∷ 4 ∷ 5 ∷ []) ≡ 1 ∷ 2 ∷ 1 ∷ 2 ∷ 1 ∷ 0 ∷ []
tree_places = refl

-- once closed, always closed
tree_closed : open_after 1 (map arity (true ∷ false ∷ false ∷ [])) ≡ 0
tree_closed = refl

-- 1 with two children, 2 with none, 3 with one, 4 with none
abbrev counts : List ℕ
counts = 2 ∷ 0 ∷ 1 ∷ 0 ∷ []

abbrev rose_values : List (List ℤ)
rose_values = one 1 ∷ one 2 ∷ one 3 ∷ one 4 ∷ []

abbrev leaf : ℕ → RoseTree (List ℤ)
leaf n = record { value = one n; below = Bare }

abbrev three : RoseTree (List ℤ)
three = record { value = one 3; below = Plant (one 4) Bare Bare }

abbrev four_nodes : RoseTree (List ℤ)
four_nodes = record { value = one 1; below = Plant (one 2) Bare (Plant (one 3) (Plant (one 4) Bare Bare) Bare) }

rose_children : children_of four_nodes ≡ leaf 2 ∷ three ∷ []
rose_children = refl

rose_counts_are : rose.counts_of four_nodes ≡ counts
rose_counts_are = refl

rose_values_are : rose.values_of four_nodes ≡ rose_values
rose_values_are = refl

rose_size : rose.size four_nodes ≡ 4
rose_size = refl

rose_last : rose.sub_at four_nodes 3 ≡ leaf 4
rose_last = refl

rose_read : rose_from counts rose_values ≡ four_nodes
rose_read = refl

rose_places : map (λ i. open_after 1 (take i counts)) (0 ∷ 1 ∷ 2 ∷ 3 ∷ 4 ∷ []) ≡ 1 ∷ 2 ∷ 1 ∷ 1 ∷ 0 ∷ []
rose_places = refl
