-- A part's own nodes one by one, in preorder, and what stands on the stack when the last of them are done.
use Rattle.std.specs.Prelude.{◌≡◌, ℕ, zero, suc, ◌+◌, ◌-◌, ◌<◌, Bool, true, false, cond, nat_lt, ◌==◌, ℤ, List, [], ◌∷◌, ◌++◌}
use Rattle.op_laws.specs.Trees.{BTree, Leaf, Node, size, sub_at, top}
use Rattle.m_bridges.specs.Parts.{Part, End, Stop, Join, own, holes}
use Rattle.bridge_contract.specs.declared.head.Head.{Head}
use Rattle.bridge_contract.specs.declared.head.Head.TheVariants.{AtEnd, AtStop, AtJoin}

-- the root of a tree
abbrev pub tree_head : BTree (List ℤ) → Head
tree_head (Leaf a) = AtEnd a
tree_head (Node b l r) = AtJoin b

-- the k-th own node
abbrev pub head_at : Part (List ℤ) → ℕ → Head
head_at (End a) k = AtEnd a
head_at (Stop b) k = AtStop b
head_at (Join b p q) zero = AtJoin b
head_at (Join b p q) (suc k) = cond (nat_lt k (own p)) (head_at p k) (head_at q (k - own p))

-- the parts whose nodes are the own nodes from the k-th on
abbrev pub pending : {A : Type 0} → Part A → ℕ → List (Part A)
pending p zero = p ∷ []
pending (End a) (suc k) = []
pending (Stop b) (suc k) = []
pending (Join b p q) (suc k) = cond (nat_lt k (own p)) (pending p k ++ q ∷ []) (pending q (k - own p))

-- what one node in front makes of the parts after it
abbrev pub Fronts : Head → List (Part (List ℤ)) → List (Part (List ℤ)) → Type 0
Fronts (AtEnd a) before after = before ≡ End a ∷ after
Fronts (AtStop b) before after = before ≡ Stop b ∷ after
Fronts (AtJoin b) before after = (p : Part (List ℤ)) × (q : Part (List ℤ)) × (rest : List (Part (List ℤ))) × (before ≡ Join b p q ∷ rest) × (after ≡ p ∷ q ∷ rest)

-- the own nodes of all parts
abbrev pub own_all : {A : Type 0} → List (Part A) → ℕ
own_all [] = 0
own_all (p ∷ ps) = own p + own_all ps

-- the holes of all parts
abbrev pub holes_all : {A : Type 0} → List (Part A) → ℕ
holes_all [] = 0
holes_all (p ∷ ps) = holes p + holes_all ps

-- the node at a place before the hole, at the hole, or past what is below it
abbrev pub beside_as : BTree (List ℤ) → ℕ → ℕ → Bool → Bool → Head
beside_as t at hole true same = tree_head (sub_at t at)
beside_as t at hole false true = AtStop (top (sub_at t at))
beside_as t at hole false false = tree_head (sub_at t (at + (size (sub_at t hole) - 1)))

-- the own node so many places from the start of the tree, with the places below the hole left out
abbrev pub beside : BTree (List ℤ) → ℕ → ℕ → Head
beside t at hole = beside_as t at hole (nat_lt at hole) (at == hole)
