-- A bridge's hole is the first critical place from its root on.
use Rattle.std.proofs.Common.{◌≡◌, ℕ, zero, suc, ◌+◌, ◌-◌, ◌/◌, ◌<◌, ◌≤◌, Bool, true, false, cond, ◌&&◌, refl, sym, ◌∙◌, ap, subst, arith, inl, inr, nat_lt, Option, Some, None, List, length, get_or, set}
use Rattle.std.proofs.lemmas.Bool.{cases_lt, cases_eq}
use Rattle.std.proofs.lemmas.Bool.Decides.{nat_tests}
use Rattle.std.proofs.lemmas.List.{length-set, get_or-set_same, get_or-set_other}
use Rattle.op_laws.specs.Trees.{BTree, Leaf, Node, size, sub_at}
use Rattle.bin_tree.proofs.TreeLemmas.{size_pos, sub_at-left, sub_at-right, within_at, node_at}
use Rattle.bin_tree.proofs.Places.{sub_sub, node_of_size}
use Rattle.m_bridges.specs.Parts.{rank, is_critical, IsCritical, hole_of, either, further}
use Rattle.m_bridges.specs.Next.{IsNext, AreNext}
use Rattle.m_bridges.proofs.Ranks.{rank_small, rank_pos}
use Rattle.m_bridges.proofs.Cuts.{true_or_false, hole_at, when_critical, critical_when}

abbrev pub IsFirst : {A : Type 0} → ℕ → BTree A → Option ℕ → Type 0
IsFirst m s None = (j : ℕ) → j < size s → is_critical m (sub_at s j) ≡ false
IsFirst m s (Some h) = (h < size s) × (is_critical m (sub_at s h) ≡ true) × ((j : ℕ) → j < h → is_critical m (sub_at s j) ≡ false)

module _ {A : Type 0} (m : ℕ) where
  -- none in the left subtree
  not_left : (b : A) (l r : BTree A) → is_critical m (Node b l r) ≡ false → IsFirst m l None → (j : ℕ) → j < 1 + size l → is_critical m (sub_at (Node b l r) j) ≡ false
  not_left b l r c f zero h = c
  not_left b l r c f (suc j) h = let p : j < size l = omega arith in ap (is_critical m) (sub_at-left b l r j p) ∙ f j p

  first_join : (b : A) (l r : BTree A) (o p : Option ℕ) → is_critical m (Node b l r) ≡ false → IsFirst m l o → IsFirst m r p → IsFirst m (Node b l r) (either (further 1 o) (further (1 + size l) p))
  first_join b l r (Some h) p c f g =
      let lt = f.0 in let e : 1 + h ≡ suc h = omega arith in (
        omega arith,
        ap (λ i. is_critical m (sub_at (Node b l r) i)) e ∙ (ap (is_critical m) (sub_at-left b l r h lt) ∙ f.1),
        (λ j q. before b l r h j c lt f.2 q),
      )
    where
      before : (b : A) (l r : BTree A) (h j : ℕ) → is_critical m (Node b l r) ≡ false → h < size l → ((j : ℕ) → j < h → is_critical m (sub_at l j) ≡ false) → j < 1 + h → is_critical m (sub_at (Node b l r) j) ≡ false
      before b l r h zero c lt f q = c
      before b l r h (suc j) c lt f q = ap (is_critical m) (sub_at-left b l r j (omega arith)) ∙ f j (omega arith)
  first_join b l r None None c f g = all b l r c f g
    where
      all : (b : A) (l r : BTree A) → is_critical m (Node b l r) ≡ false → IsFirst m l None → IsFirst m r None → IsFirst m (Node b l r) None
      all b l r c f g zero h = c
      all b l r c f g (suc j) h =
          elim (cases_lt j (size l)) as (λ _. is_critical m (sub_at (Node b l r) (suc j)) ≡ false) [
            | inl p ↦ ap (is_critical m) (sub_at-left b l r j p) ∙ f j p
            | inr q ↦ ap (is_critical m) (sub_at-right b l r j (j - size l) (omega arith)) ∙ g (j - size l) (omega arith)
          ]
  first_join b l r None (Some h) c f g =
      let lt = g.0 in let e : 1 + size l + h ≡ suc (size l + h) = omega arith in (
        omega arith,
        ap (λ i. is_critical m (sub_at (Node b l r) i)) e ∙ (ap (is_critical m) (sub_at-right b l r (size l + h) h refl) ∙ g.1),
        (λ j q. before b l r h j c f g.2 q),
      )
    where
      before : (b : A) (l r : BTree A) (h j : ℕ) → is_critical m (Node b l r) ≡ false → IsFirst m l None → ((j : ℕ) → j < h → is_critical m (sub_at r j) ≡ false) → j < 1 + size l + h → is_critical m (sub_at (Node b l r) j) ≡ false
      before b l r h zero c f g q = c
      before b l r h (suc j) c f g q =
          elim (cases_lt j (size l)) as (λ _. is_critical m (sub_at (Node b l r) (suc j)) ≡ false) [
            | inl p ↦ ap (is_critical m) (sub_at-left b l r j p) ∙ f j p
            | inr z ↦ ap (is_critical m) (sub_at-right b l r j (j - size l) (omega arith)) ∙ g (j - size l) (omega arith)
          ]

  pub first : (s : BTree A) → IsFirst m s (hole_of m s)
  first (Leaf a) = λ j h. refl
  first (Node b l r) =
      elim (true_or_false (is_critical m (Node b l r))) as (λ _. IsFirst m (Node b l r) (hole_of m (Node b l r))) [
        | inl c ↦ subst (IsFirst m (Node b l r)) (sym (hole_at m b l r true c)) (let w : 0 < size (Node b l r) = omega arith in (w, c, (λ j h. absurd (omega arith))))
        | inr c ↦ subst (IsFirst m (Node b l r)) (sym (hole_at m b l r false c)) (first_join b l r (hole_of m l) (hole_of m r) c (first l) (first r))
      ]

  -- the hole of the subtree at p, by the next critical place n
  hole_is : (t : BTree A) (p n : ℕ) (o : Option ℕ) → p < size t → IsNext m t p n → IsFirst m (sub_at t p) o
      → (n - p < size (sub_at t p) → o ≡ Some (n - p)) × (size (sub_at t p) ≤ n - p → o ≡ None)
  hole_is t p n None h x f =
      let w = within_at t p h in let from = x.from in (
        (λ q.
            let e : p + (n - p) ≡ n = omega arith in
            let there = x.here (omega arith) in
            let c = sym (ap (is_critical m) (sub_sub t p (n - p) h q)) ∙ (ap (λ i. is_critical m (sub_at t i)) e ∙ there) in
            let d = f (n - p) q in
            absurd (cc)),
        (λ q. refl),
      )
  hole_is t p n (Some k) h x f =
      let w = within_at t p h in let from = x.from in let kw = f.0 in
      let at_k = ap (is_critical m) (sub_sub t p k h kw) ∙ f.1 in
      let late : n ≤ p + k = elim (cases_lt (p + k) n) as (λ _. n ≤ p + k) [ inl q ↦ let d = x.none (p + k) (omega arith) q in absurd (cc) | inr q ↦ q ] in (
        (λ q.
            let e : p + (n - p) ≡ n = omega arith in
            let there = sym (ap (is_critical m) (sub_sub t p (n - p) h q)) ∙ (ap (λ i. is_critical m (sub_at t i)) e ∙ x.here (omega arith)) in
            let same : k ≡ n - p = elim (cases_lt (n - p) k) as (λ _. k ≡ n - p) [ inl z ↦ let d = f.2 (n - p) z in absurd (cc) | inr z ↦ omega arith ] in
            ap Some same),
        (λ q. absurd (omega arith)),
      )

  pub hole_found : (t : BTree A) (p n : ℕ) → p < size t → IsNext m t p n → n - p < size (sub_at t p) → hole_of m (sub_at t p) ≡ Some (n - p)
  hole_found t p n h x q = (hole_is t p n (hole_of m (sub_at t p)) h x (first (sub_at t p))).0 q

  pub hole_none : (t : BTree A) (p n : ℕ) → p < size t → IsNext m t p n → size (sub_at t p) ≤ n - p → hole_of m (sub_at t p) ≡ None
  hole_none t p n h x q = (hole_is t p n (hole_of m (sub_at t p)) h x (first (sub_at t p))).1 q

  pub next_ends : (t : BTree A) → IsNext m t (size t) (size t)
  next_ends t = record { from = omega arith; within = omega arith; none = λ j p q. absurd (omega arith); here = λ p. absurd (omega arith) }

  pub next_starts : (t : BTree A) (ns : List ℕ) → length ns ≡ size t → AreNext m t (size t) ns
  next_starts t ns e = record { len = e; each = λ j p q. absurd (omega arith) }

  next_cases : (t : BTree A) (i n : ℕ) (c : Bool) → 0 < i → i ≤ size t → is_critical m (sub_at t (i - 1)) ≡ c → IsNext m t i n → IsNext m t (i - 1) (cond c (i - 1) n)
  next_cases t i n true p w e x = record { from = omega arith; within = omega arith; none = λ j a b. absurd (omega arith); here = λ h. e }
  next_cases t i n false p w e x = let f = x.from in record {
    from = omega arith;
    within = x.within;
    none = λ j a b. elim (cases_lt j i) as (λ _. is_critical m (sub_at t j) ≡ false) [
      | inl q ↦ let s : j ≡ i - 1 = omega arith in ap (λ k. is_critical m (sub_at t k)) s ∙ e
      | inr q ↦ x.none j q b
    ];
    here = x.here;
  }

  pub next_more : (t : BTree A) (i n v : ℕ) → 0 < i → i ≤ size t → IsNext m t i n → v ≡ cond (is_critical m (sub_at t (i - 1))) (i - 1) n → IsNext m t (i - 1) v
  next_more t i n v p w x e = subst (IsNext m t (i - 1)) (sym e) (next_cases t i n (is_critical m (sub_at t (i - 1))) p w refl x)

  pub nexts_more : (t : BTree A) (i v : ℕ) (ns : List ℕ) → 0 < i → i ≤ size t → IsNext m t (i - 1) v → AreNext m t i ns → AreNext m t (i - 1) (set ns (i - 1) v)
  nexts_more t i v ns p w x a = record {
    len = length-set ns (i - 1) v ∙ a.len;
    each = λ j f g. elim (cases_eq j (i - 1)) as (λ _. IsNext m t j (get_or (set ns (i - 1) v) j 0)) [
      | inl same ↦
          let n = a.len in
          let e : get_or (set ns (i - 1) v) j 0 ≡ v = ap (λ k. get_or (set ns (i - 1) v) k 0) same ∙ get_or-set_same ns (i - 1) v 0 (omega arith) in
          subst (IsNext m t j) (sym e) (subst (λ k. IsNext m t k v) (sym same) x)
      | inr other ↦ subst (IsNext m t j) (sym (get_or-set_other ns (i - 1) j v 0 other)) (a.each j (let o = other in omega arith) g)
    ];
  }

  -- whether a node is critical, from sizes
  pub critical_size : (t : BTree A) (i : ℕ) → i < size t → 1 < size (sub_at t i)
      → (i + 1 < size t) × (size (sub_at t (i + 1)) + 1 ≤ size (sub_at t i))
      × (is_critical m (sub_at t i) ≡ (nat_lt ((size (sub_at t (i + 1)) + (m - 1)) / m) ((size (sub_at t i) + (m - 1)) / m)
      && nat_lt ((size (sub_at t i) - 1 - size (sub_at t (i + 1)) + (m - 1)) / m) ((size (sub_at t i) + (m - 1)) / m)))
  critical_size t i h g =
      let (b, l, r, n) = node_at t i h (node_of_size (sub_at t i) g) in
      let z = ap size n.is in let w = n.within in let p = size_pos l in let q = size_pos r in
      let el : size l ≡ size (sub_at t (i + 1)) = ap size (sym n.left) in
      let er : size r ≡ size (sub_at t i) - 1 - size (sub_at t (i + 1)) = omega arith in
      let en : size (Node b l r) ≡ size (sub_at t i) = ap size (sym n.is) in (
        omega arith,
        omega arith,
        ap (is_critical m) n.is
            ∙ (ap (λ k. nat_lt ((size l + (m - 1)) / m) ((k + (m - 1)) / m) && nat_lt ((size r + (m - 1)) / m) ((k + (m - 1)) / m)) en
            ∙ (ap (λ k. nat_lt ((k + (m - 1)) / m) ((size (sub_at t i) + (m - 1)) / m) && nat_lt ((size r + (m - 1)) / m) ((size (sub_at t i) + (m - 1)) / m)) el
            ∙ ap (λ k. nat_lt ((size (sub_at t (i + 1)) + (m - 1)) / m) ((size (sub_at t i) + (m - 1)) / m) && nat_lt ((k + (m - 1)) / m) ((size (sub_at t i) + (m - 1)) / m)) er)),
      )

  -- a tree of at most m nodes has no critical root
  pub critical_small : (s : BTree A) → 0 < m → size s ≤ m → is_critical m s ≡ false
  critical_small (Leaf a) p h = refl
  critical_small (Node b l r) p h =
      let whole = rank_small m p (Node b l r) h in let left = rank_pos m p l in
      let equal : nat_lt (rank m l) (rank m (Node b l r)) ≡ false = grind (arith, nat_tests) in rw equal refl

  pub critical_means : (s : BTree A) → (is_critical m s ≡ true → IsCritical m s) × (IsCritical m s → is_critical m s ≡ true)
  critical_means (Leaf a) = ((λ e. absurd (cc)), (λ f. absurd f))
  critical_means (Node b l r) = (when_critical m b l r, (λ p. critical_when m b l r p.0 p.1))

-- more than m nodes are more than one
pub inner_size : (m n : ℕ) → 0 < m → m < n → n ≡ 1 → ⊥
inner_size m n p more e = absurd (omega arith)

module _ {A : Type 0} (m : ℕ) (t : BTree A) (i : ℕ) where
  pub has_child : (n : ℕ) → i < size t → n ≡ size (sub_at t i) → (n ≡ 1 → ⊥) → i + 1 < size t
  has_child n h e more = let p = size_pos (sub_at t i) in (critical_size m t i h (omega arith)).0

  pub child_less : (n l : ℕ) → i < size t → n ≡ size (sub_at t i) → (n ≡ 1 → ⊥) → l ≡ size (sub_at t (i + 1)) → l + 1 ≤ n
  child_less n l h e more f = let p = size_pos (sub_at t i) in let q = (critical_size m t i h (omega arith)).1 in omega arith

  pub fewer_is : (n l : ℕ) (x : Bool) → i < size t → n ≡ size (sub_at t i) → (n ≡ 1 → ⊥) → l ≡ size (sub_at t (i + 1))
      → x ≡ (nat_lt ((l + (m - 1)) / m) ((n + (m - 1)) / m) && nat_lt ((n - 1 - l + (m - 1)) / m) ((n + (m - 1)) / m)) → x ≡ is_critical m (sub_at t i)
  fewer_is n l x h e more f g =
      let p = size_pos (sub_at t i) in
      let q = (critical_size m t i h (omega arith)).2 in
      g ∙ (ap (λ k. nat_lt ((k + (m - 1)) / m) ((n + (m - 1)) / m) && nat_lt ((n - 1 - k + (m - 1)) / m) ((n + (m - 1)) / m)) f
      ∙ (ap (λ k. nat_lt ((size (sub_at t (i + 1)) + (m - 1)) / m) ((k + (m - 1)) / m) && nat_lt ((k - 1 - size (sub_at t (i + 1)) + (m - 1)) / m) ((k + (m - 1)) / m)) e ∙ sym q))

  pub means_as : (x : Bool) → x ≡ is_critical m (sub_at t i) → (x ≡ true → IsCritical m (sub_at t i)) × (IsCritical m (sub_at t i) → x ≡ true)
  means_as x e = let f = critical_means m (sub_at t i) in ((λ h. f.0 (sym e ∙ h)), (λ h. e ∙ f.1 h))
