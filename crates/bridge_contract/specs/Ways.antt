-- The way from a bridge's root to one of its nodes: words that no public clause cites.
use Rattle.std.specs.Prelude.{◌≡◌, ℕ, ◌+◌, ◌-◌, ◌*◌, ◌<◌, ◌≤◌, ℤ, Option, Some, None, List}
use Rattle.op_laws.specs.declared.TheConstants.{MAX_ELEMENTS}
use Rattle.op_laws.specs.Trees.{BTree, size, sub_at}
use Rattle.op_laws.specs.TreeFolds.{Downward}
use Rattle.m_bridges.specs.Parts.{Part, cut_at}
use Rattle.bridge_contract.specs.Downs.{below_hole, path_length}

-- a way and its weight; none where no step was made
abbrev pub weight_of : {D : Type 0} → Option (D × ℕ) → ℕ
weight_of None = 0
weight_of (Some w) = w.1

abbrev pub FitsWay : {D : Type 0} → (D → ℕ → Type 0) → Option (D × ℕ) → Type 0
FitsWay fits_way None = Unit {0}
FitsWay fits_way (Some w) = fits_way w.0 w.1

-- what c becomes on the way
abbrev pub gone : {A V D : Type 0} → Downward A V D → V → Option (D × ℕ) → V
gone k c None = c
gone k c (Some w) = k.down c w.0

-- the way and one step more
abbrev pub onto : {A V D : Type 0} → Downward A V D → Option (D × ℕ) → D → D × ℕ
onto k None d = (d, 2)
onto k (Some w) d = (k.then w.0 d, w.1 + 2)

-- the own nodes from a place on, down to the hole
abbrev pub rest_at : BTree (List ℤ) → ℕ → ℕ → Part (List ℤ)
rest_at t i hole = cut_at (sub_at t i) (Some (hole - i))

-- a step from the place i, whose node is above the hole, leads to the child above the hole or at it
pub record LeadsOn {V D : Type 0} (k : Downward (List ℤ) V D) (t : BTree (List ℤ)) (i hole : ℕ) (d : D) (next : ℕ) : Type 0 where
  pub from : i < next
  pub above : next ≤ hole
  pub within : hole < next + size (sub_at t next)
  pub in_tree : next < size t
  pub smaller : 2 + size (sub_at t next) ≤ size (sub_at t i)
  pub value : (c : V) → below_hole k c (rest_at t i hole) ≡ below_hole k (k.down c d) (rest_at t next hole)
  pub longer : path_length (rest_at t i hole) ≡ 1 + path_length (rest_at t next hole)

-- the way leads from the root to the place i
pub record IsOnWay {V D : Type 0} (k : Downward (List ℤ) V D) (fits : V → ℕ → Type 0) (fits_way : D → ℕ → Type 0) (t : BTree (List ℤ)) (root hole i : ℕ) (way : Option (D × ℕ)) : Type 0 where
  pub from : root ≤ i
  pub above : i ≤ hole
  pub within : hole < i + size (sub_at t i)
  pub in_tree : i < size t
  pub few : weight_of way + size (sub_at t i) ≤ size (sub_at t root)
  pub fit : FitsWay fits_way way
  pub length : weight_of way + 2 * path_length (rest_at t i hole) ≡ 2 * path_length (rest_at t root hole)
  pub value : (c : V) (nc : ℕ) → nc + (weight_of way + 2) ≤ MAX_ELEMENTS → fits c nc → below_hole k c (rest_at t root hole) ≡ below_hole k (gone k c way) (rest_at t i hole)
