-- The own places of bridges by their numbers.
use Rattle.std.specs.Prelude.{◌≡◌, ℕ, ◌<◌, ◌≤◌, ℤ, List, Some, slice_get}
use Rattle.op_laws.specs.Trees.{BTree, size}
use Rattle.m_bridges.specs.Bridges.{bridges}
use Rattle.m_bridges.specs.Places.{IsBridgeOf, AreNumbered, own_place}
use Rattle.m_bridges.specs.declared.bridge.Bridge.{Bridge}

-- places that make a bridge of a tree of elements have their numbers
abbrev pub EachBridgeIsNumbered : Type 0
EachBridgeIsNumbered = (t : BTree (List ℤ)) (b : Bridge) → IsBridgeOf t b → AreNumbered t b

-- a place with the number of a bridge and that of one of its own places
pub record IsNumbered (t : BTree (List ℤ)) (bs : List Bridge) (i : ℕ) : Type 0 where
  pub number : ℕ
  pub bridge : Bridge
  pub listed : slice_get bs number ≡ Some bridge
  pub own_number : ℕ
  pub within : own_number < bridge.own
  pub place : own_place t bridge own_number ≡ i

-- the own places of all bridges, put together, are the places of the tree
abbrev pub EachPlaceIsNumbered : Type 0
EachPlaceIsNumbered = (t : BTree (List ℤ)) (m i : ℕ) → 1 ≤ m → i < size t → IsNumbered t (bridges m 0 t) i
