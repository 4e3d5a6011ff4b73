-- What a bridge owns, by places.
use Rattle.std.specs.Prelude.{◌≡◌, ◌⊎◌, ℕ, ◌+◌, ◌-◌, ◌<◌, ◌≤◌, false, cond, nat_lt, Option, Some, None, List, slice_get}
use Rattle.op_laws.specs.Trees.{BTree, size, sub_at, is_leaf}
use Rattle.m_bridges.specs.Parts.{Part, cut_at}
use Rattle.m_bridges.specs.declared.bridge.Bridge.{Bridge}

-- a hole is an inner node in the root's subtree, and all but what is strictly below it is owned
abbrev pub HoleFits : {A : Type 0} → BTree A → ℕ → ℕ → Option ℕ → Type 0
HoleFits t root own None = own ≡ size (sub_at t root)
HoleFits t root own (Some h) =
    (root ≤ h) × (h - root < size (sub_at t root)) × (is_leaf (sub_at t h) ≡ false) × (own + (size (sub_at t h) - 1) ≡ size (sub_at t root))

-- places of a tree that make a bridge: a root, and an inner node below it or none
pub record IsBridgeOf {A : Type 0} (t : BTree A) (b : Bridge) : Type 0 where
  pub within : b.root < size t
  pub hole : HoleFits t b.root b.own b.hole

abbrev pub back : ℕ → Option ℕ → Option ℕ
back root None = None
back root (Some h) = Some (h - root)

-- the own nodes of a bridge, as a tree
abbrev pub part_at : {A : Type 0} → BTree A → Bridge → Part A
part_at t b = cut_at (sub_at t b.root) (back b.root b.hole)

-- the place is one of those of a bridge with this root and this hole
abbrev pub IsOwnPlace : {A : Type 0} → BTree A → ℕ → Option ℕ → ℕ → Type 0
IsOwnPlace t root None i = (root ≤ i) × (i < root + size (sub_at t root))
IsOwnPlace t root (Some h) i = ((root ≤ i) × (i ≤ h)) ⊎ ((h + size (sub_at t h) ≤ i) × (i < root + size (sub_at t root)))

-- the bridge owns the node at the place
abbrev pub OwnsPlace : {A : Type 0} → BTree A → Bridge → ℕ → Type 0
OwnsPlace t b i = IsOwnPlace t b.root b.hole i

-- the bridge of this number owns the node at the place
abbrev pub OwnsByNumber : {A : Type 0} → BTree A → List Bridge → ℕ → ℕ → Type 0
OwnsByNumber t bs i n = (b : Bridge) × (slice_get bs n ≡ Some b) × OwnsPlace t b i

-- of the bridges exactly one owns the node at the place
pub record IsOwnedOnce {A : Type 0} (t : BTree A) (bs : List Bridge) (i : ℕ) : Type 0 where
  pub some : (n : ℕ) × OwnsByNumber t bs i n
  pub only : (n k : ℕ) → OwnsByNumber t bs i n → OwnsByNumber t bs i k → n ≡ k

-- the own place number k, from 0 on, of a bridge with this root and this hole: those behind the hole follow past what is strictly below it
abbrev pub own_place_from : {A : Type 0} → BTree A → ℕ → Option ℕ → ℕ → ℕ
own_place_from t root None k = root + k
own_place_from t root (Some h) k = cond (nat_lt h (root + k)) (root + k + (size (sub_at t h) - 1)) (root + k)

abbrev pub own_place : {A : Type 0} → BTree A → Bridge → ℕ → ℕ
own_place t b k = own_place_from t b.root b.hole k

-- numbered so, the places of a bridge are those that it owns, in ascending order
pub record AreNumbered {A : Type 0} (t : BTree A) (b : Bridge) : Type 0 where
  pub owned : (k : ℕ) → k < b.own → OwnsPlace t b (own_place t b k)
  pub ascend : (j k : ℕ) → j < k → own_place t b j < own_place t b k
  pub each : (i : ℕ) → OwnsPlace t b i → (k : ℕ) × (k < b.own) × (own_place t b k ≡ i)
