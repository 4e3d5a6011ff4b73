-- The values at the roots of bridges.
use Rattle.std.specs.Prelude.{◌≡◌, ℕ, ◌+◌, ℤ, List, map, Option, Some, None}
use Rattle.op_laws.specs.Trees.{BTree, size, sub_at}
use Rattle.op_laws.specs.TreeFolds.{Upward, Downward, fold_tree}
use Rattle.m_bridges.specs.declared.bridge.Bridge.{Bridge}
use Rattle.bridge_contract.specs.DownsOf.{down_at}

-- the value of the subtree at each bridge's root
abbrev pub AreFolds : {V G : Type 0} → Upward (List ℤ) V G → BTree (List ℤ) → List Bridge → List V → Type 0
AreFolds k t bs vs = vs ≡ map (λ b. fold_tree k (sub_at t b.root)) bs

-- the values of the two subtrees of a hole, the left one first
abbrev pub pair_below : {V G : Type 0} → Upward (List ℤ) V G → BTree (List ℤ) → Option ℕ → Option (V × V)
pair_below k t None = None
pair_below k t (Some h) = Some (fold_tree k (sub_at t (h + 1)), fold_tree k (sub_at t (h + 1 + size (sub_at t (h + 1)))))

-- those of each bridge's hole
abbrev pub ArePairs : {V G : Type 0} → Upward (List ℤ) V G → BTree (List ℤ) → List Bridge → List (Option (V × V)) → Type 0
ArePairs k t bs os = os ≡ map (λ b. pair_below k t b.hole) bs

-- the value that comes down to each bridge's root, with c at the tree's
abbrev pub ComeDown : {V D : Type 0} → Downward (List ℤ) V D → V → BTree (List ℤ) → List Bridge → List V → Type 0
ComeDown k c t bs vs = vs ≡ map (λ b. down_at k c t b.root) bs
