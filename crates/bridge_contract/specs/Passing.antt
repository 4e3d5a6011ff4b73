-- One own node more: words that no public clause cites.
use Rattle.std.specs.Prelude.{◌≡◌, ℕ, ◌+◌, ◌≤◌, ℤ, List, [], ◌∷◌, ◌++◌, Option, Some, None}
use Rattle.op_laws.specs.declared.TheConstants.{MAX_ELEMENTS}
use Rattle.op_laws.specs.Trees.{BTree, size}
use Rattle.op_laws.specs.TreeFolds.{Upward, Downward, fold_tree}
use Rattle.bridge_contract.specs.OwnNodes.{left_below, right_below}
use Rattle.bridge_contract.specs.declared.head.Head.{Head}
use Rattle.bridge_contract.specs.declared.head.Head.TheVariants.{AtEnd, AtStop, AtJoin}

-- ---- down

-- a node may pass on the value that it has
abbrev pub CanPass : {V D : Type 0} → Downward (List ℤ) V D → (V → ℕ → Type 0) → (D → ℕ → Type 0) → Head → V × ℕ → Type 0
CanPass k fits fits_way (AtEnd a) top = Unit {0}
CanPass k fits fits_way (AtStop b) top = Unit {0}
CanPass k fits fits_way (AtJoin b) top = (top.1 + 2 ≤ MAX_ELEMENTS) × fits top.0 top.1 × fits_way (k.left b) 2 × fits_way (k.right b) 2

-- the stack with the values of the children
abbrev pub passed : {V D : Type 0} → Downward (List ℤ) V D → Head → V × ℕ → List (V × ℕ) → List (V × ℕ)
passed k (AtEnd a) top st = st
passed k (AtStop b) top st = st
passed k (AtJoin b) top st = (st ++ (k.down top.0 (k.right b), top.1 + 2) ∷ []) ++ (k.down top.0 (k.left b), top.1 + 2) ∷ []

-- ---- up

-- the values of the hole's two subtrees, with their sizes
abbrev pub AreWeighed : {V G : Type 0} → Upward (List ℤ) V G → BTree (List ℤ) → Option ℕ → Option ((V × ℕ) × (V × ℕ)) → Type 0
AreWeighed k t None w = w ≡ None
AreWeighed k t (Some h) w =
    w ≡ Some ((fold_tree k (left_below t (Some h)), size (left_below t (Some h))), (fold_tree k (right_below t (Some h)), size (right_below t (Some h))))

-- a node's value from those of its children, with the weight
abbrev pub over : {V G : Type 0} → Upward (List ℤ) V G → List ℤ → V × ℕ → V × ℕ → V × ℕ
over k b x y = (k.node x.0 (k.phi b) y.0, x.1 + 1 + y.1)

-- two values may be put below a node
abbrev pub CanMeet : {V G : Type 0} → Upward (List ℤ) V G → (V → ℕ → Type 0) → (G → ℕ → Type 0) → List ℤ → V × ℕ → V × ℕ → Type 0
CanMeet k fits fits_hole b x y = (x.1 + 1 + y.1 ≤ MAX_ELEMENTS) × fits x.0 x.1 × fits_hole (k.phi b) 1 × fits y.0 y.1

abbrev pub CanStand : {V G : Type 0} → Upward (List ℤ) V G → (V → ℕ → Type 0) → (G → ℕ → Type 0) → Head → Option ((V × ℕ) × (V × ℕ)) → List (V × ℕ) → Type 0
CanStand k fits fits_hole (AtEnd a) w stack = Unit {0}
CanStand {V} k fits fits_hole (AtStop b) w stack = (x : V × ℕ) × (y : V × ℕ) × (w ≡ Some (x, y)) × CanMeet k fits fits_hole b x y
CanStand {V} k fits fits_hole (AtJoin b) w stack = (rest : List (V × ℕ)) × (x : V × ℕ) × (y : V × ℕ) × (stack ≡ (rest ++ y ∷ []) ++ x ∷ []) × CanMeet k fits fits_hole b x y

-- what the node's value is, and what is left of the stack
abbrev pub Stands : {V G : Type 0} → Upward (List ℤ) V G → Head → Option ((V × ℕ) × (V × ℕ)) → List (V × ℕ) → List (V × ℕ) → V × ℕ → Type 0
Stands k (AtEnd a) w before after r = (after ≡ before) × (r ≡ (k.leaf a, 1))
Stands {V} k (AtStop b) w before after r = (after ≡ before) × ((x : V × ℕ) × (y : V × ℕ) × (w ≡ Some (x, y)) × (r ≡ over k b x y))
Stands {V} k (AtJoin b) w before after r = (x : V × ℕ) × (y : V × ℕ) × (before ≡ (after ++ y ∷ []) ++ x ∷ []) × (r ≡ over k b x y)
