-- Critical nodes, and what a bridge owns.
use Rattle.std.specs.Prelude.{ℕ, zero, suc, ◌+◌, ◌-◌, ◌/◌, ◌<◌, Bool, true, false, cond, ◌&&◌, nat_lt, Option, Some, None}
use Rattle.op_laws.specs.Trees.{BTree, Leaf, Node, size}

-- ⌈size / m⌉
abbrev pub rank : {A : Type 0} → ℕ → BTree A → ℕ
rank m t = (size t + (m - 1)) / m

-- an inner node whose rank is greater than that of both children
abbrev pub IsCritical : {A : Type 0} → ℕ → BTree A → Type 0
IsCritical m (Leaf a) = ⊥
IsCritical m (Node b l r) = (rank m l < rank m (Node b l r)) × (rank m r < rank m (Node b l r))

abbrev pub is_critical : {A : Type 0} → ℕ → BTree A → Bool
is_critical m (Leaf a) = false
is_critical m (Node b l r) = nat_lt (rank m l) (rank m (Node b l r)) && nat_lt (rank m r) (rank m (Node b l r))

-- a tree of nodes of which some have their two subtrees elsewhere
pub data Part (A : Type 0) : Type 0 where
  End : A → Part A
  Stop : A → Part A
  Join : A → Part A → Part A → Part A

abbrev pub cut_or_join : {A : Type 0} → Bool → A → Part A → Part A → Part A
cut_or_join true b p q = Stop b
cut_or_join false b p q = Join b p q

-- the nodes that no critical node of the tree stands strictly above
abbrev pub part_of : {A : Type 0} → ℕ → BTree A → Part A
part_of m (Leaf a) = End a
part_of m (Node b l r) = cut_or_join (is_critical m (Node b l r)) b (part_of m l) (part_of m r)

abbrev pub own : {A : Type 0} → Part A → ℕ
own (End a) = 1
own (Stop b) = 1
own (Join b p q) = 1 + own p + own q

abbrev pub holes : {A : Type 0} → Part A → ℕ
holes (End a) = 0
holes (Stop b) = 1
holes (Join b p q) = holes p + holes q

-- the part with two trees hung below its hole
abbrev pub hung : {A : Type 0} → Part A → BTree A → BTree A → BTree A
hung (End a) x y = Leaf a
hung (Stop b) x y = Node b x y
hung (Join b p q) x y = Node b (hung p x y) (hung q x y)

abbrev pub either : Option ℕ → Option ℕ → Option ℕ
either None o = o
either (Some n) o = Some n

abbrev pub further : ℕ → Option ℕ → Option ℕ
further k None = None
further k (Some n) = Some (k + n)

-- the place of the first critical node, the tree's root at 0
abbrev pub hole_of : {A : Type 0} → ℕ → BTree A → Option ℕ
hole_of m (Leaf a) = None
hole_of m (Node b l r) = cond (is_critical m (Node b l r)) (Some 0) (either (further 1 (hole_of m l)) (further (1 + size l) (hole_of m r)))

-- how many nodes are critical
abbrev pub criticals : {A : Type 0} → ℕ → BTree A → ℕ
criticals m (Leaf a) = 0
criticals m (Node b l r) = cond (is_critical m (Node b l r)) 1 0 + criticals m l + criticals m r

-- the part of a tree that ends at the node with this place, where one is given
abbrev pub cut_at : {A : Type 0} → BTree A → Option ℕ → Part A
cut_at (Leaf a) o = End a
cut_at (Node b l r) None = Join b (cut_at l None) (cut_at r None)
cut_at (Node b l r) (Some zero) = Stop b
cut_at (Node b l r) (Some (suc h)) =
    cond (nat_lt h (size l)) (Join b (cut_at l (Some h)) (cut_at r None)) (Join b (cut_at l None) (cut_at r (Some (h - size l))))
