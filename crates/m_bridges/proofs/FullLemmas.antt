-- The bridges are the preorder of a full binary tree, and own all nodes.
use Rattle.std.proofs.Common.{◌≡◌, ℕ, zero, suc, ◌+◌, ◌<◌, ◌≤◌, true, false, refl, sym, ◌∙◌, ap, subst, arith, inl, inr, List, [], ◌∷◌, ◌++◌, Some, None}
use Rattle.op_laws.specs.Trees.{BTree, Leaf, Node, size, sub_at, column, top, values_of}
use Rattle.bin_tree.proofs.TreeLemmas.{size_pos, within_at, sub_at-top}
use Rattle.bin_tree.proofs.Places.{sub_sub, is_node_at}
use Rattle.m_bridges.specs.Parts.{is_critical, part_of, own, hole_of, further}
use Rattle.m_bridges.specs.Bridges.{bridge_at, bridges_below, bridges, HangTogether, IsFull}
use Rattle.m_bridges.specs.declared.bridge.Bridge.{Bridge}
use Rattle.m_bridges.proofs.Cuts.{cut, true_or_false, below_at, part_at}

abbrev pub own_total : List Bridge → ℕ
own_total [] = 0
own_total (b ∷ bs) = b.own + own_total bs

own_both : (bs cs : List Bridge) → own_total (bs ++ cs) ≡ own_total bs + own_total cs
own_both [] cs = omega arith
own_both (b ∷ bs) cs = let r = own_both bs cs in omega arith

module _ {A : Type 0} (m : ℕ) (pos_m : 0 < m) (t : BTree A) where
  -- the bridges are those of a tree whose first root is at a place
  abbrev HangFrom : ℕ → List Bridge → Type 0
  HangFrom p bs = (x : BTree Bridge) × (values_of x ≡ bs) × HangTogether t x × ((top x).root ≡ p)

  full_to : (n : ℕ) (s : BTree A) (p : ℕ) → size s ≤ n → p < size t → sub_at t p ≡ s → HangFrom p (bridges m p s)
  full_to zero s p q h e = let a = size_pos s in absurd (omega arith)
  full_to (suc n) s p q h e =
      elim (cut m pos_m s) as (λ _. HangFrom p (bridges m p s)) [
        | inl w ↦
            let none : bridges m p s ≡ bridge_at m p s ∷ [] = ap (λ y. bridge_at m p s ∷ y) (w.none_below p) in
            let ends : further p (hole_of m s) ≡ None = ap (further p) w.nowhere in
            subst (HangFrom p) (sym none) (Leaf (bridge_at m p s), refl, ends, refl)
        | inr (i, b, l, r, d) ↦
            let two : bridges m p s ≡ bridge_at m p s ∷ (bridges m (1 + (p + i)) l ++ bridges m (1 + (p + i) + size l) r) = ap (λ y. bridge_at m p s ∷ y) (d.below p) in
            let z = ap size e in let kw = d.within in let rest = d.rest in let inside = within_at t p h in
            let there : sub_at t (p + i) ≡ Node b l r = sub_sub t p i h (omega arith) ∙ (ap (λ y. sub_at y i) e ∙ d.here) in
            let node = is_node_at t (p + i) (omega arith) b l r there in
            let wn = node.within in let pl = size_pos l in let pr = size_pos r in
            let al : sub_at t (1 + (p + i)) ≡ l = ap (sub_at t) (let f : 1 + (p + i) ≡ p + i + 1 = omega arith in f) ∙ node.left in
            let ar : sub_at t (1 + (p + i) + size l) ≡ r = ap (sub_at t) (let f : 1 + (p + i) + size l ≡ p + i + 1 + size l = omega arith in f) ∙ node.right in
            let less = within_at s i kw in let nz = ap size d.here in
            let (x, ax, bx, cx) = full_to n l (1 + (p + i)) (omega arith) (omega arith) al in
            let (y, ay, by, cy) = full_to n r (1 + (p + i) + size l) (omega arith) (omega arith) ar in
            let hole : further p (hole_of m s) ≡ Some (p + i) = ap (further p) d.place in
            let wide = ap size node.left in
            subst (HangFrom p) (sym two) (
              Node (bridge_at m p s) x y,
              ap (λ z. bridge_at m p s ∷ (z ++ column top y)) ax ∙ ap (λ z. bridge_at m p s ∷ (bridges m (1 + (p + i)) l ++ z)) ay,
              (p + i, hole, omega arith, omega arith, bx, by),
              refl,
            )
      ]

  pub full : IsFull t (bridges m 0 t)
  full = let (x, is, hang, first) = full_to (size t) t 0 (omega arith) (size_pos t) (sub_at-top t) in (x, is, hang)

module _ {A : Type 0} (m : ℕ) (pos_m : 0 < m) where
  -- the own counts add up to all nodes
  pub owns_all : (t : BTree A) (at : ℕ) → own (part_of m t) + own_total (bridges_below m at t) ≡ size t
  owns_all (Leaf a) at = refl
  owns_all (Node b l r) at =
      let x = owns_all l (1 + at) in let y = owns_all r (1 + at + size l) in
      elim (true_or_false (is_critical m (Node b l r))) as (λ _. own (part_of m (Node b l r)) + own_total (bridges_below m at (Node b l r)) ≡ size (Node b l r)) [
        | inl c ↦
            let e = ap own (part_at m b l r true c) in let f = ap own_total (below_at m b l r true at c) in
            let g = own_both (bridges m (1 + at) l) (bridges m (1 + at + size l) r) in omega arith
        | inr c ↦
            let e = ap own (part_at m b l r false c) in let f = ap own_total (below_at m b l r false at c) in
            let g = own_both (bridges_below m (1 + at) l) (bridges_below m (1 + at + size l) r) in omega arith
      ]
