-- The bridges of a tree are those of its roots by paths.
use Rattle.std.proofs.Common.{◌≡◌, ℕ, suc, ◌+◌, ◌<◌, ◌≤◌, ◌⊎◌, true, false, refl, sym, ◌∙◌, ap, subst, arith, inl, inr, Option, Some, None, IsSome, List, [], ◌∷◌, ◌++◌}
use Rattle.std.specs.List.{Contains}
use Rattle.op_laws.specs.Trees.{BTree, Leaf, Node, size, sub_at}
use Rattle.bin_tree.proofs.TreeLemmas.{within_at, sub_at-left, sub_at-right}
use Rattle.bin_tree.proofs.Places.{sub_sub}
use Rattle.m_bridges.specs.Parts.{is_critical, hole_of, either, further}
use Rattle.m_bridges.specs.Bridges.{bridge_at, bridges_below, bridges}
use Rattle.m_bridges.specs.Places.{IsOwnPlace}
use Rattle.m_bridges.specs.Paths.{left, right, Path, sub, place, CriticalIn, IsCriticalPath, IsRoot, IsOwned, IsBridgeOfPath, AreBridgesByPaths}
use Rattle.m_bridges.specs.declared.bridge.Bridge.{Bridge}
use Rattle.m_bridges.proofs.Cuts.{true_or_false, critical_when, hole_at}
use Rattle.m_bridges.proofs.FirstLemmas.{first, IsFirst}
use Rattle.m_bridges.proofs.PlacedLemmas.{first_or_later, is_first, is_later}
use Rattle.m_bridges.proofs.PathLemmas.{at_place, below_child, child_below, Among, to_path, from_path, Owns, owns_is, is_owns, hole_path, path_hole, no_other, not_critical}

module _ {A : Type 0} where
  -- one path after another
  pub sub-append : (t : BTree A) (r u : Path) (s : BTree A) → sub t r ≡ Some s → sub t (r ++ u) ≡ sub s u
  sub-append t [] u s e = let same : t ≡ s = cc in ap (λ x. sub x u) same
  sub-append (Leaf a) (x ∷ r) u s e = absurd (cc)
  sub-append (Node b l r') (left ∷ r) u s e = sub-append l r u s e
  sub-append (Node b l r') (right ∷ r) u s e = sub-append r' r u s e

  pub place-append : (t : BTree A) (r u : Path) (s : BTree A) → sub t r ≡ Some s → place t (r ++ u) ≡ place t r + place s u
  place-append t [] u s e = let same : t ≡ s = cc in ap (λ x. place x u) same ∙ (let z : place s u ≡ 0 + place s u = omega arith in z)
  place-append (Leaf a) (x ∷ r) u s e = absurd (cc)
  place-append (Node b l r') (left ∷ r) u s e = let n = place-append l r u s e in omega arith
  place-append (Node b l r') (right ∷ r) u s e = let n = place-append r' r u s e in omega arith

-- within a tree whose bridge has this hole, the place is owned
abbrev pub OwnIn : {A : Type 0} → BTree A → Option ℕ → ℕ → Type 0
OwnIn s None j = j < size s
OwnIn s (Some k) j = (j ≤ k) ⊎ ((k + size (sub_at s k) ≤ j) × (j < size s))

module _ {A : Type 0} (m : ℕ) (pos_m : 0 < m) where
  left_from : (b : A) (l r : BTree A) (o p : Option ℕ) (j : ℕ) → j < size l → IsFirst m l o → OwnIn l o j → OwnIn (Node b l r) (either (further 1 o) (further (1 + size l) p)) (1 + j)
  left_from b l r None None j h f x = omega arith
  left_from b l r None (Some i) j h f x = inl (omega arith)
  left_from b l r (Some i) p j h f (inl x) = inl (omega arith)
  left_from b l r (Some i) p j h f (inr x) =
      let z = ap size (ap (sub_at (Node b l r)) (let e : 1 + i ≡ suc i = omega arith in e) ∙ sub_at-left b l r i f.0) in inr (omega arith, omega arith)

  left_to : (b : A) (l r : BTree A) (o p : Option ℕ) (j : ℕ) → j < size l → IsFirst m l o → OwnIn (Node b l r) (either (further 1 o) (further (1 + size l) p)) (1 + j) → OwnIn l o j
  left_to b l r None p j h f x = h
  left_to b l r (Some i) p j h f (inl x) = inl (omega arith)
  left_to b l r (Some i) p j h f (inr x) =
      let z = ap size (ap (sub_at (Node b l r)) (let e : 1 + i ≡ suc i = omega arith in e) ∙ sub_at-left b l r i f.0) in inr (omega arith, h)

  -- where the hole is on the left, there is none on the right
  right_from : (b : A) (l r : BTree A) (o p : Option ℕ) (j : ℕ) → j < size r → IsFirst m l o → IsFirst m r p → ((i : ℕ) → p ≡ Some i → o ≡ None) → OwnIn r p j
      → OwnIn (Node b l r) (either (further 1 o) (further (1 + size l) p)) (1 + size l + j)
  right_from b l r None None j h f g n x = omega arith
  right_from b l r None (Some i) j h f g n (inl x) = inl (omega arith)
  right_from b l r None (Some i) j h f g n (inr x) =
      let z = ap size (ap (sub_at (Node b l r)) (let e : 1 + size l + i ≡ suc (size l + i) = omega arith in e) ∙ sub_at-right b l r (size l + i) i refl) in inr (omega arith, omega arith)
  right_from b l r (Some i) None j h f g n x =
      let z = ap size (ap (sub_at (Node b l r)) (let e : 1 + i ≡ suc i = omega arith in e) ∙ sub_at-left b l r i f.0) in let w = within_at l i f.0 in inr (omega arith, omega arith)
  right_from b l r (Some i) (Some k) j h f g n x = let e = n k refl in absurd (cc)

  right_to : (b : A) (l r : BTree A) (o p : Option ℕ) (j : ℕ) → j < size r → IsFirst m r p → ((i : ℕ) → p ≡ Some i → o ≡ None)
      → OwnIn (Node b l r) (either (further 1 o) (further (1 + size l) p)) (1 + size l + j) → OwnIn r p j
  right_to b l r o None j h g n x = h
  right_to b l r None (Some i) j h g n (inl x) = inl (omega arith)
  right_to b l r None (Some i) j h g n (inr x) =
      let z = ap size (ap (sub_at (Node b l r)) (let e : 1 + size l + i ≡ suc (size l + i) = omega arith in e) ∙ sub_at-right b l r (size l + i) i refl) in inr (omega arith, h)
  right_to b l r (Some k) (Some i) j h g n x = let e = n i refl in absurd (cc)

  top_owned : (b : A) (l r : BTree A) (o : Option ℕ) → OwnIn (Node b l r) o 0
  top_owned b l r None = omega arith
  top_owned b l r (Some k) = inl (omega arith)

  other : (b : A) (l r : BTree A) → is_critical m (Node b l r) ≡ false → (i : ℕ) → hole_of m r ≡ Some i → hole_of m l ≡ None
  other b l r e i f = no_other m pos_m b l r (hole_of m l) i e refl f

  -- where the root is critical, it alone is owned
  below_critical : (b : A) (l r : BTree A) (j : ℕ) → is_critical m (Node b l r) ≡ true → 0 < j → j < size (Node b l r) → OwnIn (Node b l r) (hole_of m (Node b l r)) j → ⊥
  below_critical b l r j k p h x =
      elim (subst (λ o. OwnIn (Node b l r) o j) (hole_at m b l r true k) x) as (λ _. ⊥) [ inl y ↦ absurd (omega arith) | inr y ↦ absurd (omega arith) ]

  pub own_place : (s : BTree A) (q : Path) (u : BTree A) → sub s q ≡ Some u → Owns m s q → OwnIn s (hole_of m s) (place s q)
  own_place (Leaf a) [] u e o = omega arith
  own_place (Leaf a) (x ∷ q) u e o = absurd o
  own_place (Node b l r) [] u e o = top_owned b l r (hole_of m (Node b l r))
  own_place (Node b l r) (left ∷ q) u e o =
      let k = not_critical m pos_m b l r o.0 in let w = (at_place l q u e).0 in
      subst (λ o. OwnIn (Node b l r) o (1 + place l q)) (sym (hole_at m b l r false k))
      (left_from b l r (hole_of m l) (hole_of m r) (place l q) w (first m l) (own_place l q u e o.1))
  own_place (Node b l r) (right ∷ q) u e o =
      let k = not_critical m pos_m b l r o.0 in let w = (at_place r q u e).0 in
      subst (λ o. OwnIn (Node b l r) o (1 + size l + place r q)) (sym (hole_at m b l r false k))
      (right_from b l r (hole_of m l) (hole_of m r) (place r q) w (first m l) (first m r) (other b l r k) (own_place r q u e o.1))

  pub place_own : (s : BTree A) (q : Path) (u : BTree A) → sub s q ≡ Some u → OwnIn s (hole_of m s) (place s q) → Owns m s q
  place_own s [] u e x = tt
  place_own (Leaf a) (y ∷ q) u e x = absurd (cc)
  place_own (Node b l r) (left ∷ q) u e x =
      let w = (at_place l q u e).0 in
      elim (true_or_false (is_critical m (Node b l r))) as (λ _. Owns m (Node b l r) (left ∷ q)) [
        | inl k ↦ absurd (below_critical b l r (1 + place l q) k (omega arith) (omega arith) x)
        | inr k ↦
            let y = subst (λ o. OwnIn (Node b l r) o (1 + place l q)) (hole_at m b l r false k) x in
            ((λ c. let d = critical_when m b l r c.0 c.1 in cc), place_own l q u e (left_to b l r (hole_of m l) (hole_of m r) (place l q) w (first m l) y))
      ]
  place_own (Node b l r) (right ∷ q) u e x =
      let w = (at_place r q u e).0 in
      elim (true_or_false (is_critical m (Node b l r))) as (λ _. Owns m (Node b l r) (right ∷ q)) [
        | inl k ↦ absurd (below_critical b l r (1 + size l + place r q) k (omega arith) (omega arith) x)
        | inr k ↦
            let y = subst (λ o. OwnIn (Node b l r) o (1 + size l + place r q)) (hole_at m b l r false k) x in
            ((λ c. let d = critical_when m b l r c.0 c.1 in cc), place_own r q u e (right_to b l r (hole_of m l) (hole_of m r) (place r q) w (first m r) (other b l r k) y))
      ]

some_of : {X : Type 0} (o : Option X) → IsSome o → (x : X) × (o ≡ Some x)
some_of None e = absurd (cc)
some_of (Some x) e = (x, refl)

is_some_of : {X : Type 0} (o : Option X) (x : X) → o ≡ Some x → IsSome o
is_some_of o x e = rw e refl

-- the bridge of the root at the end of a path
module _ {A : Type 0} (m : ℕ) (pos_m : 0 < m) (t : BTree A) (r : Path) (s : BTree A) (there : sub t r ≡ Some s) where
  critical_there : (u : Path) → IsCriticalPath m t (r ++ u) → IsCriticalPath m s u
  critical_there u c = subst (CriticalIn m) (sub-append t r u s there) c

  critical_here : (u : Path) → IsCriticalPath m s u → IsCriticalPath m t (r ++ u)
  critical_here u c = subst (CriticalIn m) (sym (sub-append t r u s there)) c

  owned_from : (q : Path) (u : BTree A) → sub s q ≡ Some u → Owns m s q → IsOwned m t r q
  owned_from q u e o = (is_some_of (sub t (r ++ q)) u (sub-append t r q s there ∙ e), λ x v f n c. owns_is m s q x v o f n (critical_there x c))

  owned_to : (q : Path) (u : BTree A) → sub s q ≡ Some u → IsOwned m t r q → Owns m s q
  owned_to q u e o = is_owns m s q u e (λ x v f n c. o.1 x v f n (critical_here x c))

  within_there : (q : Path) → IsSome (sub t (r ++ q)) → (u : BTree A) × (sub s q ≡ Some u)
  within_there q e = let (u, f) = some_of (sub t (r ++ q)) e in (u, sym (sub-append t r q s there) ∙ f)

  shift_own : (o : Option ℕ) (j : ℕ) → (k : (i : ℕ) → o ≡ Some i → i < size s) → OwnIn s o j → IsOwnPlace t (place t r) (further (place t r) o) (place t r + j)
  shift_own None j k x = let z = ap size (at_place t r s there).1 in (omega arith, omega arith)
  shift_own (Some i) j k (inl x) = inl (omega arith, omega arith)
  shift_own (Some i) j k (inr x) =
      let p = at_place t r s there in let z = ap size p.1 in
      let y = ap size (sub_sub t (place t r) i p.0 (let h = k i refl in omega arith) ∙ ap (λ u. sub_at u i) p.1) in inr (omega arith, omega arith)

  own_shift : (o : Option ℕ) (j : ℕ) → (k : (i : ℕ) → o ≡ Some i → i < size s) → IsOwnPlace t (place t r) (further (place t r) o) (place t r + j) → OwnIn s o j
  own_shift None j k x = let z = ap size (at_place t r s there).1 in omega arith
  own_shift (Some i) j k (inl x) = inl (omega arith)
  own_shift (Some i) j k (inr x) =
      let p = at_place t r s there in let z = ap size p.1 in
      let y = ap size (sub_sub t (place t r) i p.0 (let h = k i refl in omega arith) ∙ ap (λ u. sub_at u i) p.1) in inr (omega arith, omega arith)

  hole_within : (i : ℕ) → hole_of m s ≡ Some i → i < size s
  hole_within i e = let f = subst (IsFirst m s) e (first m s) in f.0

  hole_from : (o : Option ℕ) (h : ℕ) → hole_of m s ≡ o → further (place t r) o ≡ Some h → (q : Path) × IsOwned m t r q × IsCriticalPath m t (r ++ q) × (place t (r ++ q) ≡ h)
  hole_from None h e f = absurd (cc)
  hole_from (Some k) h e f =
      let (q, p, c, o) = hole_path m pos_m s k e in
      let (u, g) = ended s q c in
      let n = place-append t r q s there in
      let is : place t r + k ≡ h = cc in
      (q, owned_from q u g o, critical_here q c, omega arith)
    where
      ended : (s : BTree A) (q : Path) → IsCriticalPath m s q → (u : BTree A) × (sub s q ≡ Some u)
      ended s q c = is_there (sub s q) c
        where
          is_there : (o : Option (BTree A)) → CriticalIn m o → (u : BTree A) × (o ≡ Some u)
          is_there None c = absurd c
          is_there (Some u) c = (u, refl)

  hole_to : (h : ℕ) (q : Path) → IsOwned m t r q → IsCriticalPath m t (r ++ q) → place t (r ++ q) ≡ h → further (place t r) (hole_of m s) ≡ Some h
  hole_to h q o c e =
      let (u, f) = within_there q o.0 in
      let k = path_hole m pos_m s q (critical_there q c) (owned_to q u f o) in
      let n = place-append t r q s there in
      let is : place t r + place s q ≡ h = omega arith in
      ap (further (place t r)) k ∙ ap Some is

  pub bridge_of_path : IsBridgeOfPath m t r (bridge_at m (place t r) s)
  bridge_of_path = record {
    root = refl;
    hole = λ h. (λ e. hole_from (hole_of m s) h refl e, λ x. let (q, o, c, e) = x in hole_to h q o c e);
    owns = λ q e.
        let (u, f) = within_there q e in
        let n = place-append t r q s there in (
          λ o. subst (IsOwnPlace t (place t r) (further (place t r) (hole_of m s))) (sym n) (shift_own (hole_of m s) (place s q) hole_within (own_place m pos_m s q u f (owned_to q u f o))),
          λ x. owned_from q u f (place_own m pos_m s q u f (own_shift (hole_of m s) (place s q) hole_within (subst (IsOwnPlace t (place t r) (further (place t r) (hole_of m s))) n x))),
        );
  }

among_contains : (b : Bridge) (bs : List Bridge) → Among b bs → Contains bs b
among_contains b [] x = absurd x
among_contains b (c ∷ cs) (inl e) = subst (Contains (c ∷ cs)) (sym e) (is_first c cs)
among_contains b (c ∷ cs) (inr x) = is_later c b cs (among_contains b cs x)

contains_among : (b : Bridge) (bs : List Bridge) → Contains bs b → Among b bs
contains_among b [] x = let (i, h, e) = x in absurd (omega arith)
contains_among b (c ∷ cs) x = elim (first_or_later c b cs x) as (λ _. Among b (c ∷ cs)) [ inl e ↦ inl e | inr y ↦ inr (contains_among b cs y) ]

module _ {A : Type 0} (m : ℕ) (pos_m : 0 < m) (t : BTree A) where
  root_bridge : (r : Path) (s : BTree A) → sub t r ≡ Some s → IsRoot m t r → (b : Bridge) × Contains (bridges m 0 t) b × IsBridgeOfPath m t r b
  root_bridge r s e (inl f) =
      let same : s ≡ t = let g = ap (sub t) (sym f) ∙ e in cc in
      let at : place t r ≡ 0 = ap (place t) f in
      let is : bridge_at m (place t r) s ≡ bridge_at m 0 t = ap (λ i. bridge_at m i s) at ∙ ap (bridge_at m 0) same in
      (bridge_at m (place t r) s, subst (Contains (bridges m 0 t)) (sym is) (is_first (bridge_at m 0 t) (bridges_below m 0 t)), bridge_of_path m pos_m t r s e)
  root_bridge r s e (inr c) =
      let x = from_path m t 0 r s (child_below m t r c) e in
      let y = among_contains (bridge_at m (0 + place t r) s) (bridges_below m 0 t) x in
      let z : 0 + place t r ≡ place t r = omega arith in
      (bridge_at m (place t r) s, is_later (bridge_at m 0 t) (bridge_at m (place t r) s) (bridges_below m 0 t) (subst (λ i. Contains (bridges_below m 0 t) (bridge_at m i s)) z y), bridge_of_path m pos_m t r s e)

  bridge_root : (b : Bridge) → Contains (bridges m 0 t) b → (r : Path) × IsSome (sub t r) × IsRoot m t r × IsBridgeOfPath m t r b
  bridge_root b x =
      elim (first_or_later (bridge_at m 0 t) b (bridges_below m 0 t) x) as (λ _. (r : Path) × IsSome (sub t r) × IsRoot m t r × IsBridgeOfPath m t r b) [
        | inl e ↦ ([], is_some_of (sub t []) t refl, inl refl, subst (IsBridgeOfPath m t []) (sym e) (bridge_of_path m pos_m t [] t refl))
        | inr y ↦
            let (p, s, c, e, f) = to_path m t 0 b (contains_among b (bridges_below m 0 t) y) in
            let z : 0 + place t p ≡ place t p = omega arith in
            let is : b ≡ bridge_at m (place t p) s = f ∙ ap (λ i. bridge_at m i s) z in
            (p, is_some_of (sub t p) s e, inr (below_child m t p c), subst (IsBridgeOfPath m t p) (sym is) (bridge_of_path m pos_m t p s e))
      ]

  pub by_paths : AreBridgesByPaths m t (bridges m 0 t)
  by_paths = record {
    each_root = λ r e root. let (s, f) = some_of (sub t r) e in root_bridge r s f root;
    each_bridge = bridge_root;
  }
