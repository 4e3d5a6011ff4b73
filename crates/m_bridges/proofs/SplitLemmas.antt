-- How many bridges there are.
use Rattle.std.proofs.Common.{◌≡◌, ℕ, ◌+◌, ◌*◌, ◌<◌, ◌≤◌, true, false, ap, arith, inl, inr, length, length-append}
use Rattle.op_laws.specs.Trees.{BTree, Leaf, Node, size}
use Rattle.m_bridges.specs.Parts.{rank, is_critical}
use Rattle.m_bridges.specs.Bridges.{bridges_below, bridges, AreFew}
use Rattle.m_bridges.proofs.Ranks.{IsCeiling, ranked, rank_small}
use Rattle.m_bridges.proofs.Cuts.{true_or_false, below_at}
use Rattle.m_bridges.proofs.Counts.{bridges_few}

-- no more bridges than nodes
pub as_few_as_nodes : {A : Type 0} (m : ℕ) (t : BTree A) (at : ℕ) → length (bridges m at t) ≤ size t
as_few_as_nodes m (Leaf a) at = omega arith
as_few_as_nodes m (Node b l r) at =
    let x = as_few_as_nodes m l (1 + at) in let y = as_few_as_nodes m r (1 + at + size l) in
    elim (true_or_false (is_critical m (Node b l r))) as (λ _. length (bridges m at (Node b l r)) ≤ size (Node b l r)) [
      | inl c ↦
          let f = ap length (below_at m b l r true at c) in
          let g = length-append (bridges m (1 + at) l) (bridges m (1 + at + size l) r) in omega arith
      | inr c ↦
          let f = ap length (below_at m b l r false at c) in
          let g = length-append (bridges_below m (1 + at) l) (bridges_below m (1 + at + size l) r) in omega arith
    ]

rank_more : (m n k : ℕ) → IsCeiling m n k → m < n → k ≡ 1 → ⊥
rank_more m n k c h e = let f = c.enough in let g = ap (λ j. m * j) e in absurd (omega arith)

pub are_few : {A : Type 0} (m : ℕ) (t : BTree A) → 0 < m → AreFew (size t) m (length (bridges m 0 t))
are_few m t p =
    elim (bridges_few m p t) as (λ _. AreFew (size t) m (length (bridges m 0 t))) [
      | inl f ↦ (λ h. f.1, λ h. absurd (rank_more m (size t) (rank m t) (ranked m p t) h f.0))
      | inr f ↦ (λ h. let small = rank_small m p t h in let two = f.0 in absurd (omega arith), λ h. f.1)
    ]
