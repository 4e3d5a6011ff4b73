-- The values that come down to the roots of bridges.
use Rattle.op_laws.specs.declared.TheConstants.{MAX_ELEMENTS}
use Rattle.std.proofs.Common.{◌≡◌, ℕ, zero, suc, ◌+◌, ◌-◌, ◌*◌, ◌<◌, ◌≤◌, ◌⊎◌, ℤ, List, [], ◌∷◌, ◌++◌, map, sym, ◌∙◌, ap, subst, arith, inl, inr}
use Rattle.std.proofs.lemmas.Bool.{cases_lt}
use Rattle.op_laws.specs.Trees.{BTree, Leaf, Node, size, sub_at, Each}
use Rattle.op_laws.specs.TreeFolds.{Downward}
use Rattle.bin_tree.proofs.TreeLemmas.{if_lt, if_ge, size_pos}
use Rattle.m_bridges.specs.declared.bridge.Bridge.{Bridge}
use Rattle.m_bridges.specs.Bridges.{bridges}
use Rattle.m_bridges.specs.Places.{part_at}
use Rattle.bridge_contract.specs.declared.down_summary.DownSummary.{DownSummary}
use Rattle.bridge_contract.specs.Downs.{LeadsDown, AreFallen, AreDowns}
use Rattle.bridge_contract.specs.DownsOf.{down_at, DownsOf}
use Rattle.bridge_contract.specs.OwnNodes.{depth_at}
use Rattle.bridge_contract.proofs.DownLaws.{DownLaws}
use Rattle.bridge_contract.proofs.PassLemmas.{depth_small}
use Rattle.bridge_contract.proofs.WholeDownLemmas.{may_fall, falls_are}
use Rattle.bridge_contract.specs.AtRoots.{ComeDown}

module _ {V D : Type 0} (k : Downward (List ℤ) V D) (fits : V → ℕ → Type 0) (fits_way : D → ℕ → Type 0) (t : BTree (List ℤ)) where
  pub downs_push : (bs : List Bridge) (ss : List (DownSummary D)) (b : Bridge) (s : DownSummary D) → DownsOf k fits fits_way t bs ss → LeadsDown k fits fits_way (part_at t b) s
      → DownsOf k fits fits_way t (bs ++ b ∷ []) (ss ++ s ∷ [])
  downs_push [] [] b s x y = (y, tt)
  downs_push [] (u ∷ ss) b s x y = absurd x
  downs_push (c ∷ bs) [] b s x y = absurd x
  downs_push (c ∷ bs) (u ∷ ss) b s x y = (x.0, downs_push bs ss b s x.1 y)

abbrev pub value_at : {V D : Type 0} → Downward (List ℤ) V D → V → BTree (List ℤ) → Bridge → V
value_at k c t b = down_at k c t b.root

module _ {V D : Type 0} (k : Downward (List ℤ) V D) (takes : List ℤ → Type 0) (fits : V → ℕ → Type 0) (fits_way : D → ℕ → Type 0) (laws : DownLaws k takes fits fits_way) where
  pub cut_may_fall : (t : BTree (List ℤ)) (m : ℕ) → 0 < m → size t ≤ MAX_ELEMENTS → (bs : List Bridge) → bs ≡ bridges m 0 t → (ss : List (DownSummary D)) → DownsOf k fits fits_way t bs ss → AreFallen fits_way ss
  cut_may_fall t m p few bs same ss x = may_fall k takes fits fits_way laws t m p few ss (subst (λ z. DownsOf k fits fits_way t z ss) same x)

  pub values_are : (t : BTree (List ℤ)) (m : ℕ) → 0 < m → size t ≤ MAX_ELEMENTS → (bs : List Bridge) → bs ≡ bridges m 0 t → (c : V) → fits c 1 → (ss : List (DownSummary D)) (vs : List V)
      → DownsOf k fits fits_way t bs ss → AreDowns k c ss vs → ComeDown k c t bs vs
  values_are t m p few bs same c fc ss vs x a =
      falls_are k takes fits fits_way laws t m p few c fc ss vs (subst (λ z. DownsOf k fits fits_way t z ss) same x) a ∙ ap (map (value_at k c t)) (sym same)

  -- a value that comes down has one weight for the root, and two for each step
  pub down_fits : (c : V) (n : ℕ) (t : BTree (List ℤ)) (i : ℕ) → i < size t → n + 2 * depth_at t i ≤ MAX_ELEMENTS → Each takes t → fits c n → fits (down_at k c t i) (n + 2 * depth_at t i)
  down_fits c n (Leaf a) i h few e f = subst (fits c) (let same : n ≡ n + 2 * 0 = omega arith in same) f
  down_fits c n (Node b l r) zero h few e f = subst (fits c) (let same : n ≡ n + 2 * 0 = omega arith in same) f
  down_fits c n (Node b l r) (suc i) h few e f =
      elim (cases_lt i (size l)) as (λ _. fits (down_at k c (Node b l r) (suc i)) (n + 2 * depth_at (Node b l r) (suc i))) [
        | inl p ↦
            let v = if_lt i (size l) (down_at k (k.down c (k.left b)) l i) (down_at k (k.down c (k.right b)) r (i - size l)) p in
            let d = if_lt i (size l) (depth_at l i) (depth_at r (i - size l)) p in
            let deep : n + 2 + 2 * depth_at l i ≡ n + 2 * depth_at (Node b l r) (suc i) = omega arith in
            let step = laws.down_fits c n (k.left b) 2 (omega arith) f (laws.left_fits b e.0) in
            let below = down_fits (k.down c (k.left b)) (n + 2) l i p (omega arith) e.1 step in
            subst (λ x. fits x (n + 2 * depth_at (Node b l r) (suc i))) (sym v) (subst (fits (down_at k (k.down c (k.left b)) l i)) deep below)
        | inr q ↦
            let v = if_ge i (size l) (down_at k (k.down c (k.left b)) l i) (down_at k (k.down c (k.right b)) r (i - size l)) q in
            let d = if_ge i (size l) (depth_at l i) (depth_at r (i - size l)) q in
            let deep : n + 2 + 2 * depth_at r (i - size l) ≡ n + 2 * depth_at (Node b l r) (suc i) = omega arith in
            let step = laws.down_fits c n (k.right b) 2 (omega arith) f (laws.right_fits b e.0) in
            let below = down_fits (k.down c (k.right b)) (n + 2) r (i - size l) (omega arith) (omega arith) e.2 step in
            subst (λ x. fits x (n + 2 * depth_at (Node b l r) (suc i))) (sym v) (subst (fits (down_at k (k.down c (k.right b)) r (i - size l))) deep below)
      ]

  pub value_fits : (c : V) (t : BTree (List ℤ)) (i : ℕ) (v : V) → i < size t → size t ≤ MAX_ELEMENTS → Each takes t → fits c 1 → v ≡ down_at k c t i → fits v (1 + 2 * depth_at t i)
  value_fits c t i v h few e f is =
      let small = depth_small t i h in let some = size_pos (sub_at t i) in
      subst (λ x. fits x (1 + 2 * depth_at t i)) (sym is) (down_fits c 1 t i h (omega arith) e f)
