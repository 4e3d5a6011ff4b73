-- The bridges that are left to find.
use Rattle.std.proofs.Common.{◌≡◌, ℕ, ◌+◌, ◌-◌, ◌<◌, ◌≤◌, sym, ◌∙◌, ap, subst, arith, inl, inr, Option, Some, None, List, [], ◌∷◌, ◌++◌, length, append_assoc, length-append}
use Rattle.std.proofs.lemmas.List.{append-nil, get_or_default, take_at}
use Rattle.std.proofs.Common.{get_or, take}
use Rattle.op_laws.specs.Trees.{BTree, Node, size, sub_at}
use Rattle.bin_tree.proofs.TreeLemmas.{size_pos, within_at, sub_at-top}
use Rattle.bin_tree.proofs.Places.{sub_sub, is_node_at}
use Rattle.m_bridges.specs.Parts.{part_of, own, hole_of, further}
use Rattle.m_bridges.specs.Bridges.{bridges_below, bridges}
use Rattle.m_bridges.specs.declared.bridge.Bridge.{Bridge}
use Rattle.m_bridges.proofs.Cuts.{cut, IsHoled}
use Rattle.m_bridges.proofs.FirstLemmas.{hole_found, hole_none, next_ends, next_starts}
use Rattle.m_bridges.specs.Next.{IsNext, AreNext}

-- the bridges of the subtrees at these places, the last place first
abbrev pub rest_of : {A : Type 0} → ℕ → BTree A → List ℕ → List Bridge
rest_of m t [] = []
rest_of m t (p ∷ ps) = rest_of m t ps ++ bridges m p (sub_at t p)

abbrev pub bridge : ℕ → Option ℕ → ℕ → Bridge
bridge at o n = record { root = at; hole = o; own = n }

module _ {A : Type 0} (m : ℕ) where
  pub rest_push : (t : BTree A) (ps : List ℕ) (p : ℕ) → rest_of m t (ps ++ p ∷ []) ≡ bridges m p (sub_at t p) ++ rest_of m t ps
  rest_push t [] p = sym (append-nil (bridges m p (sub_at t p)))
  rest_push t (q ∷ ps) p =
      ap (λ xs. xs ++ bridges m q (sub_at t q)) (rest_push t ps p) ∙ append_assoc (bridges m p (sub_at t p)) (rest_of m t ps) (bridges m q (sub_at t q))

  module _ (pos_m : 0 < m) where
    -- the bridges of a root without a hole
    pub alone : (s : BTree A) (p : ℕ) → hole_of m s ≡ None → bridges m p s ≡ bridge p None (size s) ∷ []
    alone s p e =
        elim (cut m pos_m s) as (λ _. bridges m p s ≡ bridge p None (size s) ∷ []) [
          | inl w ↦
              ap (λ o. record { root = p; hole = further p o; own = own (part_of m s) } ∷ bridges_below m p s) e
              ∙ (ap (λ n. bridge p None n ∷ bridges_below m p s) w.all ∙ ap (λ xs. bridge p None (size s) ∷ xs) (w.none_below p))
          | inr (h, b, l, r, d) ↦ let f = d.place in absurd (cc)
        ]

    -- those of a root with the hole h
    pub holed : (s : BTree A) (p h : ℕ) → hole_of m s ≡ Some h
        → (b : A) × (l : BTree A) × (r : BTree A) × (h < size s) × (sub_at s h ≡ Node b l r) × (size l + size r < size s)
        × (bridges m p s ≡ bridge p (Some (p + h)) (size s - (size l + size r)) ∷ (bridges m (1 + (p + h)) l ++ bridges m (1 + (p + h) + size l) r))
    holed s p h e =
        elim (cut m pos_m s) as (λ _. (b : A) × (l : BTree A) × (r : BTree A) × (h < size s) × (sub_at s h ≡ Node b l r) × (size l + size r < size s)
        × (bridges m p s ≡ bridge p (Some (p + h)) (size s - (size l + size r)) ∷ (bridges m (1 + (p + h)) l ++ bridges m (1 + (p + h) + size l) r))) [
          | inl w ↦ let f = w.nowhere in absurd (cc)
          | inr (k, b, l, r, d) ↦ holed_as s p h k b l r e d
        ]
      where
        own_pos : (s : BTree A) (h : ℕ) (b : A) (l r : BTree A) → sub_at s h ≡ Node b l r → h < size s → size l + size r < size s
        own_pos s h b l r e q = let w = within_at s h q in let z = ap size e in omega arith

        holed_as : (s : BTree A) (p h k : ℕ) (b : A) (l r : BTree A) → hole_of m s ≡ Some h → IsHoled m s k b l r
            → (b : A) × (l : BTree A) × (r : BTree A) × (h < size s) × (sub_at s h ≡ Node b l r) × (size l + size r < size s)
            × (bridges m p s ≡ bridge p (Some (p + h)) (size s - (size l + size r)) ∷ (bridges m (1 + (p + h)) l ++ bridges m (1 + (p + h) + size l) r))
        holed_as s p h k b l r e d =
            let f = d.place in
            let same : k ≡ h = cc in
            let n : own (part_of m s) ≡ size s - (size l + size r) = let x = d.rest in omega arith in
            let w = d.within in
            let here : sub_at s h ≡ Node b l r = ap (sub_at s) (sym same) ∙ d.here in (
              b,
              l,
              r,
              omega arith,
              here,
              own_pos s h b l r here (omega arith),
              ap (λ o. record { root = p; hole = further p o; own = own (part_of m s) } ∷ bridges_below m p s) e
                  ∙ (ap (λ x. bridge p (Some (p + h)) x ∷ bridges_below m p s) n
                  ∙ ap (λ xs. bridge p (Some (p + h)) (size s - (size l + size r)) ∷ xs)
                  (d.below p ∙ ap (λ i. bridges m (1 + (p + i)) l ++ bridges m (1 + (p + i) + size l) r) same)),
            )

-- each place is below n
abbrev pub Below : ℕ → List ℕ → Type 0
Below n [] = Unit {0}
Below n (p ∷ ps) = (p < n) × Below n ps

pub below_push : (n p : ℕ) (ps : List ℕ) → Below n ps → p < n → Below n (ps ++ p ∷ [])
below_push n p [] b h = (h, tt)
below_push n p (q ∷ ps) b h = (b.0, below_push n p ps b.1 h)

pub below_pop : (n p : ℕ) (ps : List ℕ) → Below n (ps ++ p ∷ []) → Below n ps × (p < n)
below_pop n p [] b = (tt, b.0)
below_pop n p (q ∷ ps) b = let r = below_pop n p ps b.1 in ((b.0, r.0), r.1)

-- what stands on the stack and in the output, with one root fewer
pub record Before {A : Type 0} (m : ℕ) (t : BTree A) (todo : List ℕ) (out : List Bridge) : Type 0 where
  pub within : Below (size t) todo
  pub whole : out ++ rest_of m t todo ≡ bridges m 0 t

module _ {A : Type 0} (m : ℕ) (t : BTree A) where
  pub starts : (todo : List ℕ) (out : List Bridge) → todo ≡ 0 ∷ [] → out ≡ [] → Before m t todo out
  starts todo out e f =
      let w : Below (size t) (0 ∷ []) = (size_pos t, tt) in
      record {
        within = subst (Below (size t)) (sym e) w;
        whole = ap (λ o. o ++ rest_of m t todo) f ∙ (ap (rest_of m t) e ∙ ap (bridges m 0) (sub_at-top t));
      }

  pub popped : (todo rest : List ℕ) (root : ℕ) → todo ≡ rest ++ root ∷ [] → Below (size t) todo → Below (size t) rest × (root < size t)
  popped todo rest root e b = below_pop (size t) root rest (subst (Below (size t)) e b)

  pub fewer : (todo rest : List ℕ) (root : ℕ) → todo ≡ rest ++ root ∷ [] → length (rest_of m t rest) < length (rest_of m t todo)
  fewer todo rest root e =
      let a = ap (λ x. length (rest_of m t x)) e in let b = ap length (rest_push m t rest root) in
      let c = length-append (bridges m root (sub_at t root)) (rest_of m t rest) in omega arith

  pub one_done : (todo rest : List ℕ) (root : ℕ) (out out' : List Bridge) (b : Bridge) → todo ≡ rest ++ root ∷ [] → out' ≡ out ++ b ∷ []
      → bridges m root (sub_at t root) ≡ b ∷ [] → Before m t todo out → Before m t rest out'
  one_done todo rest root out out' b e f g h = record {
    within = (popped todo rest root e h.within).0;
    whole =
        ap (λ o. o ++ rest_of m t rest) f ∙ (append_assoc out (b ∷ []) (rest_of m t rest)
        ∙ (ap (λ x. out ++ (x ++ rest_of m t rest)) (sym g) ∙ (ap (λ x. out ++ x) (sym (rest_push m t rest root)) ∙ (ap (λ x. out ++ rest_of m t x) (sym e) ∙ h.whole))));
  }

  two_rest : (rest todo' : List ℕ) (l r : ℕ) → todo' ≡ (rest ++ r ∷ []) ++ l ∷ [] → rest_of m t todo' ≡ (bridges m l (sub_at t l) ++ bridges m r (sub_at t r)) ++ rest_of m t rest
  two_rest rest todo' l r e =
      ap (rest_of m t) e ∙ (rest_push m t (rest ++ r ∷ []) l ∙ (ap (λ x. bridges m l (sub_at t l) ++ x) (rest_push m t rest r) ∙ sym (append_assoc (bridges m l (sub_at t l)) (bridges m r (sub_at t r)) (rest_of m t rest))))

  pub two_more : (todo rest todo' : List ℕ) (root l r : ℕ) (out out' : List Bridge) (b : Bridge) → todo ≡ rest ++ root ∷ [] → todo' ≡ (rest ++ r ∷ []) ++ l ∷ [] → out' ≡ out ++ b ∷ []
      → bridges m root (sub_at t root) ≡ b ∷ (bridges m l (sub_at t l) ++ bridges m r (sub_at t r)) → l < size t → r < size t → Before m t todo out → Before m t todo' out'
  two_more todo rest todo' root l r out out' b e k f g hl hr h =
      let both = bridges m l (sub_at t l) ++ bridges m r (sub_at t r) in
      record {
        within = subst (Below (size t)) (sym k) (below_push (size t) l (rest ++ r ∷ []) (below_push (size t) r rest (popped todo rest root e h.within).0 hr) hl);
        whole =
            ap (λ o. o ++ rest_of m t todo') f ∙ (append_assoc out (b ∷ []) (rest_of m t todo')
            ∙ (ap (λ x. out ++ (b ∷ x)) (two_rest rest todo' l r k)
            ∙ (ap (λ x. out ++ (x ++ rest_of m t rest)) (sym g) ∙ (ap (λ x. out ++ x) (sym (rest_push m t rest root)) ∙ (ap (λ x. out ++ rest_of m t x) (sym e) ∙ h.whole)))));
      }

  pub two_fewer : (todo rest todo' : List ℕ) (root l r : ℕ) (b : Bridge) → todo ≡ rest ++ root ∷ [] → todo' ≡ (rest ++ r ∷ []) ++ l ∷ []
      → bridges m root (sub_at t root) ≡ b ∷ (bridges m l (sub_at t l) ++ bridges m r (sub_at t r)) → length (rest_of m t todo') < length (rest_of m t todo)
  two_fewer todo rest todo' root l r b e k g =
      let both = bridges m l (sub_at t l) ++ bridges m r (sub_at t r) in
      let x = ap length (two_rest rest todo' l r k) in
      let y = ap (λ x. length (rest_of m t x)) e in let z = ap length (rest_push m t rest root) in
      let u = length-append (bridges m root (sub_at t root)) (rest_of m t rest) in let v = length-append both (rest_of m t rest) in
      let w = ap length g in omega arith

  -- what a root with a hole leads to, by places
  pub record Leads (root at : ℕ) : Type 0 where
    pub below : size (sub_at t at) - 1 ≤ size (sub_at t root)
    pub at_within : at < size t
    pub left : at + 1 < size t
    pub right : at + 1 + size (sub_at t (at + 1)) < size t
    pub first : bridges m root (sub_at t root) ≡ bridge root (Some at) (size (sub_at t root) - (size (sub_at t at) - 1))
        ∷ (bridges m (at + 1) (sub_at t (at + 1)) ++ bridges m (at + 1 + size (sub_at t (at + 1))) (sub_at t (at + 1 + size (sub_at t (at + 1)))))

  pub leads : 0 < m → (root at : ℕ) → root < size t → IsNext m t root at → at - root < size (sub_at t root) → Leads root at
  leads p root at h x g =
      let (b, l, r, kw, here, less, bs) = holed m p (sub_at t root) root (at - root) (hole_found m t root at h x g) in
      let w = within_at t root h in let from = x.from in
      let e : root + (at - root) ≡ at = omega arith in
      let is : sub_at t at ≡ Node b l r = ap (sub_at t) (sym e) ∙ (sub_sub t root (at - root) h g ∙ here) in
      let aw : at < size t = omega arith in
      let n = is_node_at t at aw b l r is in
      let z = ap size n.is in let v = n.within in let pl = size_pos l in let pr = size_pos r in
      let el = ap size n.left in
      let near : size (sub_at t (at + 1)) ≡ size l = el in
      let right_is : sub_at t (at + 1 + size (sub_at t (at + 1))) ≡ r = ap (λ k. sub_at t (at + 1 + k)) near ∙ n.right in
      let e1 : 1 + (root + (at - root)) ≡ at + 1 = omega arith in
      let e2 : 1 + (root + (at - root)) + size l ≡ at + 1 + size (sub_at t (at + 1)) = omega arith in
      let own_is : size (sub_at t root) - (size l + size r) ≡ size (sub_at t root) - (size (sub_at t at) - 1) = omega arith in
      record {
        below = omega arith;
        at_within = aw;
        left = omega arith;
        right = omega arith;
        first = bs
            ∙ (ap (λ k. bridge root (Some k) (size (sub_at t root) - (size l + size r)) ∷ (bridges m (1 + (root + (at - root))) l ++ bridges m (1 + (root + (at - root)) + size l) r)) e
            ∙ (ap (λ k. bridge root (Some at) k ∷ (bridges m (1 + (root + (at - root))) l ++ bridges m (1 + (root + (at - root)) + size l) r)) own_is
            ∙ (ap (λ k. bridge root (Some at) (size (sub_at t root) - (size (sub_at t at) - 1)) ∷ (bridges m k l ++ bridges m (1 + (root + (at - root)) + size l) r)) e1
            ∙ (ap (λ k. bridge root (Some at) (size (sub_at t root) - (size (sub_at t at) - 1)) ∷ (bridges m (at + 1) l ++ bridges m k r)) e2
            ∙ (ap (λ k. bridge root (Some at) (size (sub_at t root) - (size (sub_at t at) - 1)) ∷ (bridges m (at + 1) k ++ bridges m (at + 1 + size (sub_at t (at + 1))) r)) (sym n.left)
            ∙ ap (λ k. bridge root (Some at) (size (sub_at t root) - (size (sub_at t at) - 1)) ∷ (bridges m (at + 1) (sub_at t (at + 1)) ++ bridges m (at + 1 + size (sub_at t (at + 1))) k)) (sym right_is))))));
      }

  pub only : 0 < m → (root at : ℕ) → root < size t → IsNext m t root at → size (sub_at t root) ≤ at - root → bridges m root (sub_at t root) ≡ bridge root None (size (sub_at t root)) ∷ []
  only p root at h x g = alone m p (sub_at t root) root (hole_none m t root at h x g)

-- the entry of a table
pub entry : {A : Type 0} (m : ℕ) (t : BTree A) (ns : List ℕ) (root x : ℕ) → AreNext m t 0 ns → root < size t → x ≡ get_or ns root x → IsNext m t root x
entry m t ns root x a h e =
    let n = a.len in
    subst (IsNext m t root) (sym (e ∙ get_or_default ns root x 0 (omega arith))) (a.each root (omega arith) h)

module _ {A : Type 0} (m : ℕ) (t : BTree A) where
  pub next_begins : (n : ℕ) → n ≡ size t → IsNext m t n n
  next_begins n e = subst (λ k. IsNext m t k k) (sym e) (next_ends m t)

  pub next_begins_all : (n : ℕ) (ns : List ℕ) → n ≡ size t → length ns ≡ size t → AreNext m t n ns
  next_begins_all n ns e f = subst (λ k. AreNext m t k ns) (sym e) (next_starts m t ns f)

  pub next_done : (i : ℕ) (ns : List ℕ) → i ≡ 0 → AreNext m t i ns → AreNext m t 0 ns
  next_done i ns e a = subst (λ k. AreNext m t k ns) e a

  pub next_written : (ns ns' rest : List ℕ) (n : ℕ) → ns' ≡ take n (ns ++ rest) → length ns ≡ n → AreNext m t 0 ns → AreNext m t 0 ns'
  next_written ns ns' rest n e f a = subst (AreNext m t 0) (sym (e ∙ take_at ns rest n f)) a

  pub first_like : (root at s n l : ℕ) → s ≡ size (sub_at t root) → n ≡ size (sub_at t at) → l ≡ size (sub_at t (at + 1)) → Leads m t root at
      → bridges m root (sub_at t root) ≡ bridge root (Some at) (s - (n - 1)) ∷ (bridges m (at + 1) (sub_at t (at + 1)) ++ bridges m (at + 1 + l) (sub_at t (at + 1 + l)))
  first_like root at s n l e f g x =
      x.first
      ∙ (ap (λ k. bridge root (Some at) (k - (size (sub_at t at) - 1)) ∷ (bridges m (at + 1) (sub_at t (at + 1)) ++ bridges m (at + 1 + size (sub_at t (at + 1))) (sub_at t (at + 1 + size (sub_at t (at + 1)))))) (sym e)
      ∙ (ap (λ k. bridge root (Some at) (s - (k - 1)) ∷ (bridges m (at + 1) (sub_at t (at + 1)) ++ bridges m (at + 1 + size (sub_at t (at + 1))) (sub_at t (at + 1 + size (sub_at t (at + 1)))))) (sym f)
      ∙ ap (λ k. bridge root (Some at) (s - (n - 1)) ∷ (bridges m (at + 1) (sub_at t (at + 1)) ++ bridges m (at + 1 + k) (sub_at t (at + 1 + k)))) (sym g)))
