-- A summary for each bridge.
use Rattle.std.specs.Prelude.{ℕ, ℤ, List, [], ◌∷◌}
use Rattle.op_laws.specs.Trees.{BTree}
use Rattle.m_bridges.specs.declared.bridge.Bridge.{Bridge}
use Rattle.op_laws.specs.TreeFolds.{Upward}
use Rattle.bridge_contract.specs.Summaries.{Sums}
use Rattle.m_bridges.specs.Places.{part_at}
use Rattle.bridge_contract.specs.declared.summary.Summary.{Summary}

-- each bridge of the tree has the summary at its place
abbrev pub SumsOf : {V G : Type 0} → Upward (List ℤ) V G → ((List ℤ) → Type 0) → (V → ℕ → Type 0) → (G → ℕ → Type 0) → BTree (List ℤ) → List Bridge → List (Summary V G) → Type 0
SumsOf k takes fits_v fits_g t [] [] = Unit {0}
SumsOf k takes fits_v fits_g t [] (s ∷ ss) = ⊥
SumsOf k takes fits_v fits_g t (b ∷ bs) [] = ⊥
SumsOf k takes fits_v fits_g t (b ∷ bs) (s ∷ ss) = Sums k takes fits_v fits_g (part_at t b) s × SumsOf k takes fits_v fits_g t bs ss
