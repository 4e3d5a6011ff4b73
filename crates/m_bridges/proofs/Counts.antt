-- How many bridges there are.
use Rattle.std.proofs.Common.{◌≡◌, ℕ, ◌+◌, ◌*◌, ◌<◌, ◌≤◌, ◌⊎◌, Bool, true, false, refl, ap, arith, inl, inr, length, length-append}
use Rattle.op_laws.specs.Trees.{BTree, Leaf, Node, size}
use Rattle.m_bridges.specs.Parts.{rank, is_critical, criticals}
use Rattle.m_bridges.specs.Bridges.{bridges_below, bridges}
use Rattle.m_bridges.proofs.Ranks.{rank_pos, rank_leaf, rank_left, rank_right, rank_both}
use Rattle.m_bridges.proofs.Cuts.{true_or_false, when_critical, when_not, many_at, below_at}

abbrev pub Few : ℕ → ℕ → Type 0
Few k c = ((k ≡ 1) × (c ≡ 0)) ⊎ ((2 ≤ k) × (c + 3 ≤ 2 * k))

few_critical : (k kl kr c cl cr : ℕ) → kl < k → kr < k → kl + kr ≤ k + 1 → c ≡ 1 + cl + cr → Few kl cl → Few kr cr → Few k c
few_critical k kl kr c cl cr p q b e (inl f) (inl g) = inr (omega arith, omega arith)
few_critical k kl kr c cl cr p q b e (inl f) (inr g) = inr (omega arith, omega arith)
few_critical k kl kr c cl cr p q b e (inr f) (inl g) = inr (omega arith, omega arith)
few_critical k kl kr c cl cr p q b e (inr f) (inr g) = inr (omega arith, omega arith)

few_other : (k kl kr c cl cr : ℕ) → (k ≤ kl) ⊎ (k ≤ kr) → kl ≤ k → kr ≤ k → kl + kr ≤ k + 1 → 0 < k → c ≡ 0 + cl + cr → Few kl cl → Few kr cr → Few k c
few_other k kl kr c cl cr n p q b z e (inl f) (inl g) = inl (elim n as (λ _. k ≡ 1) [ inl u ↦ omega arith | inr v ↦ omega arith ], omega arith)
few_other k kl kr c cl cr n p q b z e (inl f) (inr g) = inr (omega arith, elim n as (λ _. c + 3 ≤ 2 * k) [ inl u ↦ omega arith | inr v ↦ omega arith ])
few_other k kl kr c cl cr n p q b z e (inr f) (inl g) = inr (omega arith, elim n as (λ _. c + 3 ≤ 2 * k) [ inl u ↦ omega arith | inr v ↦ omega arith ])
few_other k kl kr c cl cr n p q b z e (inr f) (inr g) = inr (omega arith, elim n as (λ _. c + 3 ≤ 2 * k) [ inl u ↦ omega arith | inr v ↦ omega arith ])

module _ {A : Type 0} (m : ℕ) (pos_m : 0 < m) where
  pub few_criticals : (t : BTree A) → Few (rank m t) (criticals m t)
  few_criticals (Leaf a) = inl (rank_leaf m pos_m a, refl)
  few_criticals (Node b l r) =
      let both = rank_both m pos_m b l r in
      elim (true_or_false (is_critical m (Node b l r))) as (λ _. Few (rank m (Node b l r)) (criticals m (Node b l r))) [
        | inl c ↦ let less = when_critical m b l r c in
            few_critical (rank m (Node b l r)) (rank m l) (rank m r) (criticals m (Node b l r)) (criticals m l) (criticals m r) less.0 less.1 both (many_at m b l r true c) (few_criticals l) (few_criticals r)
        | inr c ↦
            few_other (rank m (Node b l r)) (rank m l) (rank m r) (criticals m (Node b l r)) (criticals m l) (criticals m r) (when_not m b l r c) (rank_left m pos_m b l r) (rank_right m pos_m b l r) both (rank_pos m pos_m (Node b l r)) (many_at m b l r false c) (few_criticals l) (few_criticals r)
      ]

  count_cases : (b : A) (l r : BTree A) (at : ℕ) (c : Bool) → is_critical m (Node b l r) ≡ c
      → length (bridges_below m (1 + at) l) ≡ 2 * criticals m l → length (bridges_below m (1 + at + size l) r) ≡ 2 * criticals m r
      → length (bridges_below m at (Node b l r)) ≡ 2 * criticals m (Node b l r)
  count_cases b l r at true e p q =
      let n = ap length (below_at m b l r true at e) in let k = many_at m b l r true e in
      let s = length-append (bridges m (1 + at) l) (bridges m (1 + at + size l) r) in omega arith
  count_cases b l r at false e p q =
      let n = ap length (below_at m b l r false at e) in let k = many_at m b l r false e in
      let s = length-append (bridges_below m (1 + at) l) (bridges_below m (1 + at + size l) r) in omega arith

  pub count : (t : BTree A) (at : ℕ) → length (bridges_below m at t) ≡ 2 * criticals m t
  count (Leaf a) at = refl
  count (Node b l r) at = count_cases b l r at (is_critical m (Node b l r)) refl (count l (1 + at)) (count r (1 + at + size l))

  -- one bridge, or at most 4 k - 5
  pub bridges_few : (t : BTree A) → ((rank m t ≡ 1) × (length (bridges m 0 t) ≡ 1)) ⊎ ((2 ≤ rank m t) × (length (bridges m 0 t) + 5 ≤ 4 * rank m t))
  bridges_few t =
      let n = count t 0 in
      elim (few_criticals t) as (λ _. ((rank m t ≡ 1) × (length (bridges m 0 t) ≡ 1)) ⊎ ((2 ≤ rank m t) × (length (bridges m 0 t) + 5 ≤ 4 * rank m t))) [
        | inl f ↦ inl (f.0, omega arith)
        | inr f ↦ inr (f.0, omega arith)
      ]
