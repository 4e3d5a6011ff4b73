-- What holds of all bridges of a tree together.
use Rattle.std.specs.Prelude.{◌≡◌, ℕ, ◌+◌, ◌*◌, ◌<◌, ◌≤◌, ℤ, List, Option}
use Rattle.op_laws.specs.declared.TheConstants.{MAX_ELEMENTS}
use Rattle.op_laws.specs.Trees.{BTree, size, sub_at, Each}
use Rattle.op_laws.specs.TreeFolds.{Upward, Downward}
use Rattle.m_bridges.specs.Parts.{hung}
use Rattle.m_bridges.specs.Bridges.{bridges}
use Rattle.m_bridges.specs.Places.{IsBridgeOf, part_at}
use Rattle.m_bridges.specs.declared.bridge.Bridge.{Bridge}
use Rattle.bridge_contract.specs.declared.summary.Summary.{Summary}
use Rattle.bridge_contract.specs.declared.down_summary.DownSummary.{DownSummary}
use Rattle.bridge_contract.specs.SumsOf.{SumsOf}
use Rattle.bridge_contract.specs.Bridged.{AreBridged, AreUps, AreBelows}
use Rattle.bridge_contract.specs.Downs.{AreFallen, AreDowns}
use Rattle.bridge_contract.specs.DownsOf.{down_at, DownsOf}
use Rattle.bridge_contract.specs.OwnNodes.{AreBelow, left_below, right_below, depth_at}
use Rattle.bridge_contract.specs.AtRoots.{AreFolds, ArePairs, ComeDown, pair_below}

-- the own nodes of a bridge, with what hangs below its hole, are the subtree at its root
abbrev pub EachPartIsItsSubtree : Type 0
EachPartIsItsSubtree = (t : BTree (List ℤ)) (b : Bridge) → IsBridgeOf t b → hung (part_at t b) (left_below t b.hole) (right_below t b.hole) ≡ sub_at t b.root

-- The summaries of all bridges of a tree may be joined. What they come to at the roots are the folds of the subtrees there, and the pairs
-- below the holes are the folds of the holes' subtrees, as `expand_up` asks for them
pub record SummariesJoin {V G : Type 0} (k : Upward (List ℤ) V G) (takes : List ℤ → Type 0) (fits : V → ℕ → Type 0) (fits_hole : G → ℕ → Type 0) : Type 0 where
  pub may_join : (t : BTree (List ℤ)) (m : ℕ) (parts : List (Summary V G)) → 1 ≤ m → size t ≤ MAX_ELEMENTS → Each takes t → SumsOf k takes fits fits_hole t (bridges m 0 t) parts → AreBridged fits fits_hole parts
  pub folds : (t : BTree (List ℤ)) (m : ℕ) (parts : List (Summary V G)) (vs : List V) → 1 ≤ m → size t ≤ MAX_ELEMENTS → Each takes t → SumsOf k takes fits fits_hole t (bridges m 0 t) parts
      → AreUps k parts vs → AreFolds k t (bridges m 0 t) vs
  pub pairs : (t : BTree (List ℤ)) (m : ℕ) (parts : List (Summary V G)) (os : List (Option (V × V))) → 1 ≤ m → size t ≤ MAX_ELEMENTS → Each takes t → SumsOf k takes fits fits_hole t (bridges m 0 t) parts
      → AreBelows k parts os → ArePairs k t (bridges m 0 t) os
  pub pair_fits : (t : BTree (List ℤ)) (hole : Option ℕ) → AreBelow k t hole (pair_below k t hole)

-- what all bridges of a tree pass down may be joined, and what comes to the roots are the values that come down there; each fits what `expand_down` asks
pub record WaysJoin {V D : Type 0} (k : Downward (List ℤ) V D) (takes : List ℤ → Type 0) (fits : V → ℕ → Type 0) (fits_way : D → ℕ → Type 0) : Type 0 where
  pub may_join : (t : BTree (List ℤ)) (m : ℕ) (parts : List (DownSummary D)) → 1 ≤ m → size t ≤ MAX_ELEMENTS → DownsOf k fits fits_way t (bridges m 0 t) parts → AreFallen fits_way parts
  pub values : (t : BTree (List ℤ)) (m : ℕ) (c : V) (parts : List (DownSummary D)) (vs : List V) → 1 ≤ m → size t ≤ MAX_ELEMENTS → fits c 1 → DownsOf k fits fits_way t (bridges m 0 t) parts
      → AreDowns k c parts vs → ComeDown k c t (bridges m 0 t) vs
  pub fit : (t : BTree (List ℤ)) (c : V) (i : ℕ) → i < size t → size t ≤ MAX_ELEMENTS → Each takes t → fits c 1 → fits (down_at k c t i) (1 + 2 * depth_at t i)
