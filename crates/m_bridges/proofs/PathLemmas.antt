-- Bridges by paths are the bridges by recursion on the tree.
use Rattle.std.proofs.Common.{◌≡◌, ℕ, zero, suc, ◌+◌, ◌-◌, ◌<◌, ◌⊎◌, true, false, refl, sym, ◌∙◌, ap, subst, arith, inl, inr, Option, Some, None, List, [], ◌∷◌, ◌++◌}
use Rattle.std.proofs.lemmas.Bool.{cases_lt}
use Rattle.op_laws.specs.Trees.{BTree, Leaf, Node, size, sub_at}
use Rattle.bin_tree.proofs.TreeLemmas.{sub_at-left, sub_at-right}
use Rattle.m_bridges.specs.Parts.{is_critical, IsCritical, part_of, holes, hole_of, either, further}
use Rattle.m_bridges.specs.Bridges.{bridge_at, bridges_below, bridges}
use Rattle.m_bridges.specs.Paths.{Side, left, right, Path, sub, place, IsCriticalPath}
use Rattle.m_bridges.specs.declared.bridge.Bridge.{Bridge}
use Rattle.m_bridges.proofs.Cuts.{true_or_false, when_critical, critical_when, below_at, hole_at, part_at, one_hole, cut}

module _ {A : Type 0} where
  -- the subtree at the end of a path is that at its place
  pub at_place : (t : BTree A) (p : Path) (s : BTree A) → sub t p ≡ Some s → (place t p < size t) × (sub_at t (place t p) ≡ s)
  at_place (Leaf a) [] s e = (omega arith, cc)
  at_place (Node b l r) [] s e = (omega arith, cc)
  at_place (Leaf a) (x ∷ p) s e = absurd (cc)
  at_place (Node b l r) (left ∷ p) s e =
      let q = at_place l p s e in let w = q.0 in
      let i : 1 + place l p ≡ suc (place l p) = omega arith in
      (omega arith, ap (sub_at (Node b l r)) i ∙ (sub_at-left b l r (place l p) w ∙ q.1))
  at_place (Node b l r) (right ∷ p) s e =
      let q = at_place r p s e in let w = q.0 in
      let i : 1 + size l + place r p ≡ suc (size l + place r p) = omega arith in
      (omega arith, ap (sub_at (Node b l r)) i ∙ (sub_at-right b l r (size l + place r p) (place r p) refl ∙ q.1))

  -- each place is that of a path
  pub path_to : (t : BTree A) (i : ℕ) → i < size t → (p : Path) × (place t p ≡ i) × (sub t p ≡ Some (sub_at t i))
  path_to (Leaf a) i h = ([], omega arith, refl)
  path_to (Node b l r) zero h = ([], refl, refl)
  path_to (Node b l r) (suc i) h =
      elim (cases_lt i (size l)) as (λ _. (p : Path) × (place (Node b l r) p ≡ suc i) × (sub (Node b l r) p ≡ Some (sub_at (Node b l r) (suc i)))) [
        | inl w ↦ let (p, e, f) = path_to l i w in (left ∷ p, omega arith, f ∙ ap Some (sym (sub_at-left b l r i w)))
        | inr w ↦ let (p, e, f) = path_to r (i - size l) (omega arith) in (right ∷ p, omega arith, f ∙ ap Some (sym (sub_at-right b l r i (i - size l) (omega arith))))
      ]

-- a root strictly below the top, by recursion on the path
abbrev pub IsBelow : {A : Type 0} → ℕ → BTree A → Path → Type 0
IsBelow m t [] = ⊥
IsBelow m (Leaf a) (x ∷ p) = ⊥
IsBelow m (Node b l r) (left ∷ []) = IsCritical m (Node b l r)
IsBelow m (Node b l r) (left ∷ x ∷ p) = IsBelow m l (x ∷ p)
IsBelow m (Node b l r) (right ∷ []) = IsCritical m (Node b l r)
IsBelow m (Node b l r) (right ∷ x ∷ p) = IsBelow m r (x ∷ p)

-- the path has a critical one just above
abbrev pub IsChild : {A : Type 0} → ℕ → BTree A → Path → Type 0
IsChild m t p = (q : Path) × (s : Side) × (p ≡ q ++ s ∷ []) × IsCriticalPath m t q

module _ {A : Type 0} (m : ℕ) where
  pub below_child : (t : BTree A) (p : Path) → IsBelow m t p → IsChild m t p
  below_child t [] b = absurd b
  below_child (Leaf a) (x ∷ p) b = absurd b
  below_child (Node c l r) (left ∷ []) b = ([], left, refl, b)
  below_child (Node c l r) (right ∷ []) b = ([], right, refl, b)
  below_child (Node c l r) (left ∷ x ∷ p) b = let (q, s, e, f) = below_child l (x ∷ p) b in (left ∷ q, s, ap (λ y. left ∷ y) e, f)
  below_child (Node c l r) (right ∷ x ∷ p) b = let (q, s, e, f) = below_child r (x ∷ p) b in (right ∷ q, s, ap (λ y. right ∷ y) e, f)

  child_of : (t : BTree A) (q : Path) (s : Side) → IsCriticalPath m t q → IsBelow m t (q ++ s ∷ [])
  child_of (Leaf a) [] s f = absurd f
  child_of (Leaf a) (x ∷ q) s f = absurd f
  child_of (Node c l r) [] left f = f
  child_of (Node c l r) [] right f = f
  child_of (Node c l r) (left ∷ []) s f = child_of l [] s f
  child_of (Node c l r) (right ∷ []) s f = child_of r [] s f
  child_of (Node c l r) (left ∷ x ∷ q) s f = child_of l (x ∷ q) s f
  child_of (Node c l r) (right ∷ x ∷ q) s f = child_of r (x ∷ q) s f

  pub child_below : (t : BTree A) (p : Path) → IsChild m t p → IsBelow m t p
  child_below t p (q, s, e, f) = subst (IsBelow m t) (sym e) (child_of t q s f)

abbrev pub Among : Bridge → List Bridge → Type 0
Among b [] = ⊥
Among b (c ∷ cs) = (b ≡ c) ⊎ Among b cs

among_left : (b : Bridge) (cs ds : List Bridge) → Among b cs → Among b (cs ++ ds)
among_left b [] ds x = absurd x
among_left b (c ∷ cs) ds (inl e) = inl e
among_left b (c ∷ cs) ds (inr x) = inr (among_left b cs ds x)

among_right : (b : Bridge) (cs ds : List Bridge) → Among b ds → Among b (cs ++ ds)
among_right b [] ds x = x
among_right b (c ∷ cs) ds x = inr (among_right b cs ds x)

among_either : (b : Bridge) (cs ds : List Bridge) → Among b (cs ++ ds) → Among b cs ⊎ Among b ds
among_either b [] ds x = inr x
among_either b (c ∷ cs) ds (inl e) = inl (inl e)
among_either b (c ∷ cs) ds (inr x) = elim (among_either b cs ds x) as (λ _. Among b (c ∷ cs) ⊎ Among b ds) [ inl y ↦ inl (inr y) | inr y ↦ inr y ]

module _ {A : Type 0} (m : ℕ) where
  -- the bridge is that of a path strictly below the top
  abbrev pub HasPath : ℕ → BTree A → Bridge → Type 0
  HasPath at t b = (p : Path) × (s : BTree A) × IsBelow m t p × (sub t p ≡ Some s) × (b ≡ bridge_at m (at + place t p) s)

  lift_left : (at : ℕ) (c : A) (l r : BTree A) (b : Bridge) → HasPath (1 + at) l b → HasPath at (Node c l r) b
  lift_left at c l r b ([], s, x, e, f) = absurd x
  lift_left at c l r b (y ∷ p, s, x, e, f) = (left ∷ y ∷ p, s, x, e, f ∙ ap (λ i. bridge_at m i s) (let q : 1 + at + place l (y ∷ p) ≡ at + (1 + place l (y ∷ p)) = omega arith in q))

  lift_right : (at : ℕ) (c : A) (l r : BTree A) (b : Bridge) → HasPath (1 + at + size l) r b → HasPath at (Node c l r) b
  lift_right at c l r b ([], s, x, e, f) = absurd x
  lift_right at c l r b (y ∷ p, s, x, e, f) = (right ∷ y ∷ p, s, x, e, f ∙ ap (λ i. bridge_at m i s) (let q : 1 + at + size l + place r (y ∷ p) ≡ at + (1 + size l + place r (y ∷ p)) = omega arith in q))

  pub to_path : (t : BTree A) (at : ℕ) (b : Bridge) → Among b (bridges_below m at t) → HasPath at t b
  to_path (Leaf a) at b x = absurd x
  to_path (Node c l r) at b x =
      elim (true_or_false (is_critical m (Node c l r))) as (λ _. HasPath at (Node c l r) b) [
        | inr e ↦
            elim (among_either b (bridges_below m (1 + at) l) (bridges_below m (1 + at + size l) r) (subst (Among b) (below_at m c l r false at e) x)) as (λ _. HasPath at (Node c l r) b) [
              | inl y ↦ lift_left at c l r b (to_path l (1 + at) b y)
              | inr y ↦ lift_right at c l r b (to_path r (1 + at + size l) b y)
            ]
        | inl e ↦
            elim (among_either b (bridges m (1 + at) l) (bridges m (1 + at + size l) r) (subst (Among b) (below_at m c l r true at e) x)) as (λ _. HasPath at (Node c l r) b) [
              | inl y ↦ elim y as (λ _. HasPath at (Node c l r) b) [
                | inl f ↦ (left ∷ [], l, when_critical m c l r e, refl, f ∙ ap (λ i. bridge_at m i l) (let q : 1 + at ≡ at + (1 + 0) = omega arith in q))
                | inr z ↦ lift_left at c l r b (to_path l (1 + at) b z)
              ]
              | inr y ↦ elim y as (λ _. HasPath at (Node c l r) b) [
                | inl f ↦ (right ∷ [], r, when_critical m c l r e, refl, f ∙ ap (λ i. bridge_at m i r) (let q : 1 + at + size l ≡ at + (1 + size l + 0) = omega arith in q))
                | inr z ↦ lift_right at c l r b (to_path r (1 + at + size l) b z)
              ]
            ]
      ]

  -- what is below a child is below the node
  below_left : (at : ℕ) (c : A) (l r : BTree A) (b : Bridge) → Among b (bridges_below m (1 + at) l) → Among b (bridges_below m at (Node c l r))
  below_left at c l r b x =
      elim (true_or_false (is_critical m (Node c l r))) as (λ _. Among b (bridges_below m at (Node c l r))) [
        | inl e ↦ subst (Among b) (sym (below_at m c l r true at e)) (among_left b (bridges m (1 + at) l) (bridges m (1 + at + size l) r) (inr x))
        | inr e ↦ subst (Among b) (sym (below_at m c l r false at e)) (among_left b (bridges_below m (1 + at) l) (bridges_below m (1 + at + size l) r) x)
      ]

  below_right : (at : ℕ) (c : A) (l r : BTree A) (b : Bridge) → Among b (bridges_below m (1 + at + size l) r) → Among b (bridges_below m at (Node c l r))
  below_right at c l r b x =
      elim (true_or_false (is_critical m (Node c l r))) as (λ _. Among b (bridges_below m at (Node c l r))) [
        | inl e ↦ subst (Among b) (sym (below_at m c l r true at e)) (among_right b (bridges m (1 + at) l) (bridges m (1 + at + size l) r) (inr x))
        | inr e ↦ subst (Among b) (sym (below_at m c l r false at e)) (among_right b (bridges_below m (1 + at) l) (bridges_below m (1 + at + size l) r) x)
      ]

  pub from_path : (t : BTree A) (at : ℕ) (p : Path) (s : BTree A) → IsBelow m t p → sub t p ≡ Some s → Among (bridge_at m (at + place t p) s) (bridges_below m at t)
  from_path t at [] s x e = absurd x
  from_path (Leaf a) at (y ∷ p) s x e = absurd x
  from_path (Node c l r) at (left ∷ []) s x e =
      let k = critical_when m c l r x.0 x.1 in let same : l ≡ s = cc in
      let here : bridge_at m (at + (1 + 0)) s ≡ bridge_at m (1 + at) l = ap (λ i. bridge_at m i s) (let q : at + (1 + 0) ≡ 1 + at = omega arith in q) ∙ ap (bridge_at m (1 + at)) (sym same) in
      subst (Among (bridge_at m (at + (1 + 0)) s)) (sym (below_at m c l r true at k)) (among_left (bridge_at m (at + (1 + 0)) s) (bridges m (1 + at) l) (bridges m (1 + at + size l) r) (inl here))
  from_path (Node c l r) at (right ∷ []) s x e =
      let k = critical_when m c l r x.0 x.1 in let same : r ≡ s = cc in
      let here : bridge_at m (at + (1 + size l + 0)) s ≡ bridge_at m (1 + at + size l) r = ap (λ i. bridge_at m i s) (let q : at + (1 + size l + 0) ≡ 1 + at + size l = omega arith in q) ∙ ap (bridge_at m (1 + at + size l)) (sym same) in
      subst (Among (bridge_at m (at + (1 + size l + 0)) s)) (sym (below_at m c l r true at k)) (among_right (bridge_at m (at + (1 + size l + 0)) s) (bridges m (1 + at) l) (bridges m (1 + at + size l) r) (inl here))
  from_path (Node c l r) at (left ∷ y ∷ p) s x e =
      subst (λ i. Among (bridge_at m i s) (bridges_below m at (Node c l r))) (let q : 1 + at + place l (y ∷ p) ≡ at + (1 + place l (y ∷ p)) = omega arith in q)
      (below_left at c l r (bridge_at m (1 + at + place l (y ∷ p)) s) (from_path l (1 + at) (y ∷ p) s x e))
  from_path (Node c l r) at (right ∷ y ∷ p) s x e =
      subst (λ i. Among (bridge_at m i s) (bridges_below m at (Node c l r))) (let q : 1 + at + size l + place r (y ∷ p) ≡ at + (1 + size l + place r (y ∷ p)) = omega arith in q)
      (below_right at c l r (bridge_at m (1 + at + size l + place r (y ∷ p)) s) (from_path r (1 + at + size l) (y ∷ p) s x e))

-- owned by the top's bridge, by recursion on the path
abbrev pub Owns : {A : Type 0} → ℕ → BTree A → Path → Type 0
Owns m t [] = Unit {0}
Owns m (Leaf a) (x ∷ q) = ⊥
Owns m (Node b l r) (left ∷ q) = (IsCritical m (Node b l r) → ⊥) × Owns m l q
Owns m (Node b l r) (right ∷ q) = (IsCritical m (Node b l r) → ⊥) × Owns m r q

module _ {A : Type 0} (m : ℕ) where
  pub owns_is : (t : BTree A) (q u v : Path) → Owns m t q → q ≡ u ++ v → (v ≡ [] → ⊥) → IsCriticalPath m t u → ⊥
  owns_is t [] [] v o e n c = n (sym e)
  owns_is t [] (x ∷ u) v o e n c = absurd (cc)
  owns_is (Leaf a) (x ∷ q) u v o e n c = o
  owns_is (Node b l r) (left ∷ q) [] v o e n c = o.0 c
  owns_is (Node b l r) (right ∷ q) [] v o e n c = o.0 c
  owns_is (Node b l r) (left ∷ q) (left ∷ u) v o e n c = owns_is l q u v o.1 (cc) n c
  owns_is (Node b l r) (right ∷ q) (right ∷ u) v o e n c = owns_is r q u v o.1 (cc) n c
  owns_is (Node b l r) (left ∷ q) (right ∷ u) v o e n c = absurd (cc)
  owns_is (Node b l r) (right ∷ q) (left ∷ u) v o e n c = absurd (cc)

  pub is_owns : (t : BTree A) (q : Path) (s : BTree A) → sub t q ≡ Some s → ((u v : Path) → q ≡ u ++ v → (v ≡ [] → ⊥) → IsCriticalPath m t u → ⊥) → Owns m t q
  is_owns t [] s e f = tt
  is_owns (Leaf a) (x ∷ q) s e f = absurd (cc)
  is_owns (Node b l r) (left ∷ q) s e f = ((λ c. f [] (left ∷ q) refl (λ z. cc) c), is_owns l q s e (λ u v g n c. f (left ∷ u) v (ap (λ y. left ∷ y) g) n c))
  is_owns (Node b l r) (right ∷ q) s e f = ((λ c. f [] (right ∷ q) refl (λ z. cc) c), is_owns r q s e (λ u v g n c. f (right ∷ u) v (ap (λ y. right ∷ y) g) n c))

module _ {A : Type 0} (m : ℕ) (pos_m : 0 < m) where
  -- the hole is a critical path that the bridge owns
  hole_left : (h : ℕ) (c : A) (l r : BTree A) → is_critical m (Node c l r) ≡ false → (q : Path) × (place l q ≡ h) × IsCriticalPath m l q × Owns m l q
      → (q : Path) × (place (Node c l r) q ≡ 1 + h) × IsCriticalPath m (Node c l r) q × Owns m (Node c l r) q
  hole_left h c l r e (q, f, g, o) = (left ∷ q, omega arith, g, ((λ x. let k = critical_when m c l r x.0 x.1 in cc), o))

  hole_right : (h : ℕ) (c : A) (l r : BTree A) → is_critical m (Node c l r) ≡ false → (q : Path) × (place r q ≡ h) × IsCriticalPath m r q × Owns m r q
      → (q : Path) × (place (Node c l r) q ≡ 1 + size l + h) × IsCriticalPath m (Node c l r) q × Owns m (Node c l r) q
  hole_right h c l r e (q, f, g, o) = (right ∷ q, omega arith, g, ((λ x. let k = critical_when m c l r x.0 x.1 in cc), o))

  hole_split : (h : ℕ) (c : A) (l r : BTree A) (o p : Option ℕ) → is_critical m (Node c l r) ≡ false → either (further 1 o) (further (1 + size l) p) ≡ Some h
      → ((i : ℕ) → o ≡ Some i → (q : Path) × (place l q ≡ i) × IsCriticalPath m l q × Owns m l q)
      → ((i : ℕ) → p ≡ Some i → (q : Path) × (place r q ≡ i) × IsCriticalPath m r q × Owns m r q)
      → (q : Path) × (place (Node c l r) q ≡ h) × IsCriticalPath m (Node c l r) q × Owns m (Node c l r) q
  hole_split h c l r (Some i) p e f x y = let is : 1 + i ≡ h = cc in let (q, a, b, d) = hole_left i c l r e (x i refl) in (q, a ∙ is, b, d)
  hole_split h c l r None (Some i) e f x y = let is : 1 + size l + i ≡ h = cc in let (q, a, b, d) = hole_right i c l r e (y i refl) in (q, a ∙ is, b, d)
  hole_split h c l r None None e f x y = absurd (cc)

  pub hole_path : (s : BTree A) (h : ℕ) → hole_of m s ≡ Some h → (q : Path) × (place s q ≡ h) × IsCriticalPath m s q × Owns m s q
  hole_path (Leaf a) h e = absurd (cc)
  hole_path (Node c l r) h e =
      elim (true_or_false (is_critical m (Node c l r))) as (λ _. (q : Path) × (place (Node c l r) q ≡ h) × IsCriticalPath m (Node c l r) q × Owns m (Node c l r) q) [
        | inl k ↦ let f = sym (hole_at m c l r true k) ∙ e in let is : 0 ≡ h = cc in ([], is, when_critical m c l r k, tt)
        | inr k ↦ hole_split h c l r (hole_of m l) (hole_of m r) k (sym (hole_at m c l r false k) ∙ e) (hole_path l) (hole_path r)
      ]

  hole_one : (t : BTree A) (h : ℕ) → hole_of m t ≡ Some h → holes (part_of m t) ≡ 1
  hole_one t h e = elim (cut m pos_m t) as (λ _. holes (part_of m t) ≡ 1) [
    | inl w ↦ let f = w.nowhere in absurd (cc)
    | inr (k, b, l, r, d) ↦ d.one_hole
  ]

  pub no_other : (c : A) (l r : BTree A) (o : Option ℕ) (h : ℕ) → is_critical m (Node c l r) ≡ false → hole_of m l ≡ o → hole_of m r ≡ Some h → o ≡ None
  no_other c l r None h e f g = refl
  no_other c l r (Some i) h e f g =
      let a = hole_one l i f in let b = hole_one r h g in let one = one_hole m pos_m (Node c l r) in let is = ap holes (part_at m c l r false e) in absurd (omega arith)

  pub not_critical : (c : A) (l r : BTree A) → (IsCritical m (Node c l r) → ⊥) → is_critical m (Node c l r) ≡ false
  not_critical c l r n = elim (true_or_false (is_critical m (Node c l r))) as (λ _. is_critical m (Node c l r) ≡ false) [ inl e ↦ absurd (n (when_critical m c l r e)) | inr e ↦ e ]

  -- and there is no other
  pub path_hole : (s : BTree A) (q : Path) → IsCriticalPath m s q → Owns m s q → hole_of m s ≡ Some (place s q)
  path_hole (Leaf a) [] c o = absurd c
  path_hole (Leaf a) (x ∷ q) c o = absurd o
  path_hole (Node b l r) [] c o = hole_at m b l r true (critical_when m b l r c.0 c.1)
  path_hole (Node b l r) (left ∷ q) c o =
      let e = not_critical b l r o.0 in
      hole_at m b l r false e ∙ ap (λ x. either (further 1 x) (further (1 + size l) (hole_of m r))) (path_hole l q c o.1)
  path_hole (Node b l r) (right ∷ q) c o =
      let e = not_critical b l r o.0 in let f = path_hole r q c o.1 in
      let g = no_other b l r (hole_of m l) (place r q) e refl f in
      hole_at m b l r false e ∙ (ap (λ x. either (further 1 x) (further (1 + size l) (hole_of m r))) g ∙ ap (λ x. further (1 + size l) x) f)
