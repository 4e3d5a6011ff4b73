-- The bridges of a tree in preorder of their roots.
use Rattle.std.specs.Prelude.{◌≡◌, ℕ, ◌+◌, ◌-◌, ◌*◌, ◌/◌, ◌<◌, ◌≤◌, ◌==◌, cond, Option, Some, None, List, [], ◌∷◌, ◌++◌, slice_get}
use Rattle.op_laws.specs.Trees.{BTree, Leaf, Node, size, sub_at, top, values_of}
use Rattle.m_bridges.specs.Parts.{is_critical, part_of, own, hole_of, further}
use Rattle.m_bridges.specs.declared.bridge.Bridge.{Bridge}

-- the bridge whose root is that of t, which stands at a place
abbrev pub bridge_at : {A : Type 0} → ℕ → ℕ → BTree A → Bridge
bridge_at m at t = record { root = at; hole = further at (hole_of m t); own = own (part_of m t) }

-- the bridges whose roots are strictly below that of t
abbrev pub bridges_below : {A : Type 0} → ℕ → ℕ → BTree A → List Bridge
bridges_below m at (Leaf a) = []
bridges_below m at (Node b l r) =
    cond (is_critical m (Node b l r))
    ((bridge_at m (1 + at) l ∷ bridges_below m (1 + at) l) ++ (bridge_at m (1 + at + size l) r ∷ bridges_below m (1 + at + size l) r))
    (bridges_below m (1 + at) l ++ bridges_below m (1 + at + size l) r)

abbrev pub bridges : {A : Type 0} → ℕ → ℕ → BTree A → List Bridge
bridges m at t = bridge_at m at t ∷ bridges_below m at t

-- of n nodes there are so many bridges: one, or at most 4⌈n / m⌉ - 5
abbrev pub AreFew : ℕ → ℕ → ℕ → Type 0
AreFew n m k = (n ≤ m → k ≡ 1) × (m < n → k + 5 ≤ 4 * ((n + (m - 1)) / m))

-- a binary tree of bridges of t: a leaf has no hole, and the two bridges below another have the children of its hole for roots
abbrev pub HangTogether : {A : Type 0} → BTree A → BTree Bridge → Type 0
HangTogether t (Leaf b) = b.hole ≡ None
HangTogether t (Node b x y) =
    (h : ℕ) × (b.hole ≡ Some h) × ((top x).root ≡ h + 1) × ((top y).root ≡ h + 1 + size (sub_at t (h + 1))) × HangTogether t x × HangTogether t y

-- the bridges of t are the preorder of such a tree
abbrev pub IsFull : {A : Type 0} → BTree A → List Bridge → Type 0
IsFull t bs = (x : BTree Bridge) × (values_of x ≡ bs) × HangTogether t x

-- the roots ascend
abbrev pub RootsAscend : List Bridge → Type 0
RootsAscend bs = (i j : ℕ) (b c : Bridge) → i < j → slice_get bs i ≡ Some b → slice_get bs j ≡ Some c → b.root < c.root

-- how many nodes a bridge has with the critical node above its root; the first bridge has none above
abbrev pub with_node_above : Bridge → ℕ
with_node_above b = cond (b.root == 0) b.own (1 + b.own)
