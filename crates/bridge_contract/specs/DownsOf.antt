-- What each bridge passes down.
use Rattle.std.specs.Prelude.{ℕ, zero, suc, ◌-◌, cond, nat_lt, ℤ, List, [], ◌∷◌}
use Rattle.op_laws.specs.Trees.{BTree, Leaf, Node, size}
use Rattle.op_laws.specs.TreeFolds.{Downward}
use Rattle.m_bridges.specs.declared.bridge.Bridge.{Bridge}
use Rattle.m_bridges.specs.Places.{part_at}
use Rattle.bridge_contract.specs.Downs.{LeadsDown}
use Rattle.bridge_contract.specs.declared.down_summary.DownSummary.{DownSummary}

-- the value at a place, with c at the root
abbrev pub down_at : {A V D : Type 0} → Downward A V D → V → BTree A → ℕ → V
down_at k c (Leaf a) i = c
down_at k c (Node b l r) zero = c
down_at k c (Node b l r) (suc i) = cond (nat_lt i (size l)) (down_at k (k.down c (k.left b)) l i) (down_at k (k.down c (k.right b)) r (i - size l))

-- each bridge of the tree has what it passes down at its place
abbrev pub DownsOf : {V D : Type 0} → Downward (List ℤ) V D → (V → ℕ → Type 0) → (D → ℕ → Type 0) → BTree (List ℤ) → List Bridge → List (DownSummary D) → Type 0
DownsOf k fits fits_way t [] [] = Unit {0}
DownsOf k fits fits_way t [] (s ∷ ss) = ⊥
DownsOf k fits fits_way t (b ∷ bs) [] = ⊥
DownsOf k fits fits_way t (b ∷ bs) (s ∷ ss) = LeadsDown k fits fits_way (part_at t b) s × DownsOf k fits fits_way t bs ss
