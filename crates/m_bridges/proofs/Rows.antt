-- The bridges of a tree of five nodes and of one of seven, worked out.
use Rattle.std.proofs.Common.{◌≡◌, ℕ, false, Some, None, [], ◌∷◌, refl}
use Rattle.op_laws.specs.Trees.{BTree, Leaf, Node}
use Rattle.m_bridges.specs.Parts.{is_critical}
use Rattle.m_bridges.specs.Bridges.{bridges}
use Rattle.m_bridges.specs.declared.bridge.Bridge.{Bridge}

-- N 1, L 2, N 3, L 4, L 5
abbrev five : BTree ℕ
five = Node 1 (Leaf 2) (Node 3 (Leaf 4) (Leaf 5))

-- N 1, N 2, N 3, L 4, L 5, L 6, L 7
abbrev seven : BTree ℕ
seven = Node 1 (Node 2 (Node 3 (Leaf 4) (Leaf 5)) (Leaf 6)) (Leaf 7)

abbrev with_hole : ℕ → ℕ → ℕ → Bridge
with_hole root hole own = record { root = root; hole = Some hole; own = own }

abbrev without : ℕ → ℕ → Bridge
without root own = record { root = root; hole = None; own = own }

five_by_3 : bridges 3 0 five ≡ with_hole 0 0 1 ∷ without 1 1 ∷ without 2 3 ∷ []
five_by_3 = refl

five_by_2 : bridges 2 0 five ≡ with_hole 0 0 1 ∷ without 1 1 ∷ with_hole 2 2 1 ∷ without 3 1 ∷ without 4 1 ∷ []
five_by_2 = refl

five_by_5 : bridges 5 0 five ≡ without 0 5 ∷ []
five_by_5 = refl

seven_by_4 : bridges 4 0 seven ≡ with_hole 0 1 3 ∷ without 2 3 ∷ without 5 1 ∷ []
seven_by_4 = refl

-- of seven nodes' root, by 4, only one child has a smaller ceiling
root_of_seven : is_critical 4 seven ≡ false
root_of_seven = refl
