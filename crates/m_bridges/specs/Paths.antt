-- Critical nodes and bridges by paths.
use Rattle.std.specs.Prelude.{◌≡◌, ℕ, ◌+◌, ◌⊎◌, ◌↔◌, Option, Some, None, IsSome, List, [], ◌∷◌, ◌++◌}
use Rattle.op_laws.specs.Trees.{BTree, Leaf, Node, size}
use Rattle.std.specs.List.{Contains}
use Rattle.m_bridges.specs.Parts.{IsCritical}
use Rattle.m_bridges.specs.Places.{OwnsPlace}
use Rattle.m_bridges.specs.declared.bridge.Bridge.{Bridge}

-- a step from a node to one of its children
pub data Side : Type 0 where
  left : Side
  right : Side

-- the steps from the root of a tree
abbrev pub Path : Type 0
Path = List Side

-- the subtree at the end of a path
abbrev pub sub : {A : Type 0} → BTree A → Path → Option (BTree A)
sub t [] = Some t
sub (Leaf a) (s ∷ p) = None
sub (Node b l r) (left ∷ p) = sub l p
sub (Node b l r) (right ∷ p) = sub r p

-- its place in the preorder
abbrev pub place : {A : Type 0} → BTree A → Path → ℕ
place t [] = 0
place (Leaf a) (s ∷ p) = 0
place (Node b l r) (left ∷ p) = 1 + place l p
place (Node b l r) (right ∷ p) = 1 + size l + place r p

-- the tree that is there, if one is, has a critical root
abbrev pub CriticalIn : {A : Type 0} → ℕ → Option (BTree A) → Type 0
CriticalIn m None = ⊥
CriticalIn m (Some t) = IsCritical m t

-- the path ends at a critical node
abbrev pub IsCriticalPath : {A : Type 0} → ℕ → BTree A → Path → Type 0
IsCriticalPath m t p = CriticalIn m (sub t p)

-- the empty path and both children of each critical one
abbrev pub IsRoot : {A : Type 0} → ℕ → BTree A → Path → Type 0
IsRoot m t p = (p ≡ []) ⊎ ((q : Path) × (s : Side) × (p ≡ q ++ s ∷ []) × IsCriticalPath m t q)

-- the bridge of the root r owns r and q: no critical path lies at r or below it and strictly above r and q
abbrev pub IsOwned : {A : Type 0} → ℕ → BTree A → Path → Path → Type 0
IsOwned m t r q = IsSome (sub t (r ++ q)) × ((u v : Path) → q ≡ u ++ v → (v ≡ [] → ⊥) → IsCriticalPath m t (r ++ u) → ⊥)

-- the bridge is that of the root at the end of the path: it has its place, its hole is the critical path that it owns, if there is one,
-- and its places are those of the paths that it owns
pub record IsBridgeOfPath {A : Type 0} (m : ℕ) (t : BTree A) (r : Path) (b : Bridge) : Type 0 where
  pub root : b.root ≡ place t r
  pub hole : (h : ℕ) → (b.hole ≡ Some h) ↔ ((q : Path) × IsOwned m t r q × IsCriticalPath m t (r ++ q) × (place t (r ++ q) ≡ h))
  pub owns : (q : Path) → IsSome (sub t (r ++ q)) → IsOwned m t r q ↔ OwnsPlace t b (place t (r ++ q))

-- the bridges are those of the roots
pub record AreBridgesByPaths {A : Type 0} (m : ℕ) (t : BTree A) (bs : List Bridge) : Type 0 where
  pub each_root : (r : Path) → IsSome (sub t r) → IsRoot m t r → (b : Bridge) × Contains bs b × IsBridgeOfPath m t r b
  pub each_bridge : (b : Bridge) → Contains bs b → (r : Path) × IsSome (sub t r) × IsRoot m t r × IsBridgeOfPath m t r b
