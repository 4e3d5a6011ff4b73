-- How a tree is cut: at one critical node or at none.
use Rattle.std.proofs.Common.{◌≡◌, ℕ, suc, ◌+◌, ◌*◌, ◌<◌, ◌≤◌, ◌⊎◌, Bool, true, false, cond, ◌&&◌, refl, ◌∙◌, ap, arith, inl, inr, nat_lt, Some, None, [], ◌++◌}
use Rattle.std.proofs.lemmas.Bool.{cases_lt, ltb-true, lt-ltb}
use Rattle.std.proofs.lemmas.List.{append-nil}
use Rattle.op_laws.specs.Trees.{BTree, Leaf, Node, size, sub_at}
use Rattle.bin_tree.proofs.TreeLemmas.{sub_at-left, sub_at-right}
use Rattle.m_bridges.specs.Parts.{rank, is_critical, cut_or_join, part_of, own, holes, hung, hole_of, either, further, criticals}
use Rattle.m_bridges.specs.Bridges.{bridges_below, bridges}
use Rattle.m_bridges.proofs.Ranks.{ranked, rank_pos, rank_leaf, rank_left, rank_right, rank_both}

-- the tree is all one part, with no critical node
pub record IsWhole {A : Type 0} (m : ℕ) (t : BTree A) : Type 0 where
  pub rank_one : rank m t ≡ 1
  pub no_hole : holes (part_of m t) ≡ 0
  pub all : own (part_of m t) ≡ size t
  pub same : (x y : BTree A) → hung (part_of m t) x y ≡ t
  pub nowhere : hole_of m t ≡ None
  pub none_below : (at : ℕ) → bridges_below m at t ≡ []
  pub none : criticals m t ≡ 0

-- the part ends at one critical node, at the place h, whose children are l and r
pub record IsHoled {A : Type 0} (m : ℕ) (t : BTree A) (h : ℕ) (b : A) (l r : BTree A) : Type 0 where
  pub rank_same : rank m (Node b l r) ≡ rank m t
  pub left_less : rank m l < rank m t
  pub right_less : rank m r < rank m t
  pub one_hole : holes (part_of m t) ≡ 1
  pub rest : own (part_of m t) + size l + size r ≡ size t
  pub same : hung (part_of m t) l r ≡ t
  pub place : hole_of m t ≡ Some h
  pub within : h < size t
  pub here : sub_at t h ≡ Node b l r
  pub below : (at : ℕ) → bridges_below m at t ≡ bridges m (1 + (at + h)) l ++ bridges m (1 + (at + h) + size l) r
  pub many : criticals m t ≡ 1 + criticals m l + criticals m r

abbrev pub Cut : {A : Type 0} → ℕ → BTree A → Type 0
Cut m t = IsWhole m t ⊎ ((h : ℕ) × (b : _) × (l : BTree _) × (r : BTree _) × IsHoled m t h b l r)

pub true_or_false : (c : Bool) → (c ≡ true) ⊎ (c ≡ false)
true_or_false true = inl refl
true_or_false false = inr refl

both_true : (x y : Bool) → (x && y) ≡ true → (x ≡ true) × (y ≡ true)
both_true true y e = (refl, e)
both_true false y e = absurd (cc)

module _ {A : Type 0} (m : ℕ) (b : A) (l r : BTree A) where
  pub when_critical : is_critical m (Node b l r) ≡ true → (rank m l < rank m (Node b l r)) × (rank m r < rank m (Node b l r))
  when_critical c =
      let both = both_true (nat_lt (rank m l) (rank m (Node b l r))) (nat_lt (rank m r) (rank m (Node b l r))) c in
      (ltb-true (rank m l) (rank m (Node b l r)) both.0, ltb-true (rank m r) (rank m (Node b l r)) both.1)

  pub critical_when : rank m l < rank m (Node b l r) → rank m r < rank m (Node b l r) → is_critical m (Node b l r) ≡ true
  critical_when p q =
      let e = lt-ltb (rank m l) (rank m (Node b l r)) p in let f = lt-ltb (rank m r) (rank m (Node b l r)) q in
      ap (λ x. x && nat_lt (rank m r) (rank m (Node b l r))) e ∙ f

  pub when_not : is_critical m (Node b l r) ≡ false → (rank m (Node b l r) ≤ rank m l) ⊎ (rank m (Node b l r) ≤ rank m r)
  when_not c =
      elim (cases_lt (rank m l) (rank m (Node b l r))) as (λ _. (rank m (Node b l r) ≤ rank m l) ⊎ (rank m (Node b l r) ≤ rank m r)) [
        | inr q ↦ inl q
        | inl p ↦ elim (cases_lt (rank m r) (rank m (Node b l r))) as (λ _. (rank m (Node b l r) ≤ rank m l) ⊎ (rank m (Node b l r) ≤ rank m r)) [
          | inr q ↦ inr q
          | inl q ↦ let e = critical_when p q in absurd (cc)
        ]
      ]

  pub part_at : (c : Bool) → is_critical m (Node b l r) ≡ c → part_of m (Node b l r) ≡ cut_or_join c b (part_of m l) (part_of m r)
  part_at c e = ap (λ x. cut_or_join x b (part_of m l) (part_of m r)) e

  pub hole_at : (c : Bool) → is_critical m (Node b l r) ≡ c → hole_of m (Node b l r) ≡ cond c (Some 0) (either (further 1 (hole_of m l)) (further (1 + size l) (hole_of m r)))
  hole_at c e = ap (λ x. cond x (Some 0) (either (further 1 (hole_of m l)) (further (1 + size l) (hole_of m r)))) e

  pub below_at : (c : Bool) (at : ℕ) → is_critical m (Node b l r) ≡ c → bridges_below m at (Node b l r) ≡ cond c (bridges m (1 + at) l ++ bridges m (1 + at + size l) r) (bridges_below m (1 + at) l ++ bridges_below m (1 + at + size l) r)
  below_at c at e = ap (λ x. cond x (bridges m (1 + at) l ++ bridges m (1 + at + size l) r) (bridges_below m (1 + at) l ++ bridges_below m (1 + at + size l) r)) e

  pub many_at : (c : Bool) → is_critical m (Node b l r) ≡ c → criticals m (Node b l r) ≡ cond c 1 0 + criticals m l + criticals m r
  many_at c e = ap (λ x. cond x 1 0 + criticals m l + criticals m r) e

  pub critical_node : is_critical m (Node b l r) ≡ true → IsHoled m (Node b l r) 0 b l r
  critical_node c =
      let is = part_at true c in let less = when_critical c in
      record {
        rank_same = refl;
        left_less = less.0;
        right_less = less.1;
        one_hole = ap holes is;
        rest = let e = ap own is in omega arith;
        same = ap (λ p. hung p l r) is;
        place = hole_at true c;
        within = omega arith;
        here = refl;
        below = λ at. below_at true at c ∙ ap (λ k. bridges m (1 + k) l ++ bridges m (1 + k + size l) r) (let e : at ≡ at + 0 = omega arith in e);
        many = many_at true c;
      }

  pub join_whole : is_critical m (Node b l r) ≡ false → rank m (Node b l r) ≡ 1 → IsWhole m l → IsWhole m r → IsWhole m (Node b l r)
  join_whole c k wl wr =
      let is = part_at false c in
      record {
        rank_one = k;
        no_hole = let e = ap holes is in let f = wl.no_hole in let g = wr.no_hole in omega arith;
        all = let e = ap own is in let f = wl.all in let g = wr.all in omega arith;
        same = λ x y. ap (λ p. hung p x y) is ∙ (ap (λ u. Node b u (hung (part_of m r) x y)) (wl.same x y) ∙ ap (Node b l) (wr.same x y));
        nowhere = hole_at false c ∙ (ap (λ o. either (further 1 o) (further (1 + size l) (hole_of m r))) wl.nowhere ∙ ap (λ o. further (1 + size l) o) wr.nowhere);
        none_below = λ at. below_at false at c ∙ (ap (λ x. x ++ bridges_below m (1 + at + size l) r) (wl.none_below (1 + at)) ∙ wr.none_below (1 + at + size l));
        none = let e = many_at false c in let f = wl.none in let g = wr.none in omega arith;
      }

  pub join_left : (h : ℕ) (b' : A) (l' r' : BTree A) → is_critical m (Node b l r) ≡ false → rank m l ≡ rank m (Node b l r) → IsHoled m l h b' l' r' → IsWhole m r → IsHoled m (Node b l r) (suc h) b' l' r'
  join_left h b' l' r' c k d w =
      let is = part_at false c in
      record {
        rank_same = d.rank_same ∙ k;
        left_less = let e = d.left_less in omega arith;
        right_less = let e = d.right_less in omega arith;
        one_hole = let e = ap holes is in let f = d.one_hole in let g = w.no_hole in omega arith;
        rest = let e = ap own is in let f = d.rest in let g = w.all in omega arith;
        same = ap (λ p. hung p l' r') is ∙ (ap (λ u. Node b u (hung (part_of m r) l' r')) d.same ∙ ap (Node b l) (w.same l' r'));
        place = hole_at false c ∙ (ap (λ o. either (further 1 o) (further (1 + size l) (hole_of m r))) d.place ∙ ap Some (let e : 1 + h ≡ suc h = omega arith in e));
        within = let e = d.within in omega arith;
        here = sub_at-left b l r h d.within ∙ d.here;
        below = λ at. below_at false at c ∙ (ap (λ x. bridges_below m (1 + at) l ++ x) (w.none_below (1 + at + size l))
            ∙ (append-nil (bridges_below m (1 + at) l) ∙ (d.below (1 + at) ∙ ap (λ i. bridges m (1 + i) l' ++ bridges m (1 + i + size l') r') (let e : 1 + at + h ≡ at + suc h = omega arith in e))));
        many = let e = many_at false c in let f = d.many in let g = w.none in omega arith;
      }

  pub join_right : (h : ℕ) (b' : A) (l' r' : BTree A) → is_critical m (Node b l r) ≡ false → rank m r ≡ rank m (Node b l r) → IsWhole m l → IsHoled m r h b' l' r' → IsHoled m (Node b l r) (suc (size l + h)) b' l' r'
  join_right h b' l' r' c k w d =
      let is = part_at false c in
      record {
        rank_same = d.rank_same ∙ k;
        left_less = let e = d.left_less in omega arith;
        right_less = let e = d.right_less in omega arith;
        one_hole = let e = ap holes is in let f = d.one_hole in let g = w.no_hole in omega arith;
        rest = let e = ap own is in let f = d.rest in let g = w.all in omega arith;
        same = ap (λ p. hung p l' r') is ∙ (ap (λ u. Node b u (hung (part_of m r) l' r')) (w.same l' r') ∙ ap (Node b l) d.same);
        place = hole_at false c ∙ (ap (λ o. either (further 1 o) (further (1 + size l) (hole_of m r))) w.nowhere
            ∙ (ap (λ o. further (1 + size l) o) d.place ∙ ap Some (let e : 1 + size l + h ≡ suc (size l + h) = omega arith in e)));
        within = let e = d.within in omega arith;
        here = sub_at-right b l r (size l + h) h refl ∙ d.here;
        below = λ at. below_at false at c ∙ (ap (λ x. x ++ bridges_below m (1 + at + size l) r) (w.none_below (1 + at))
            ∙ (d.below (1 + at + size l) ∙ ap (λ i. bridges m (1 + i) l' ++ bridges m (1 + i + size l') r') (let e : 1 + at + size l + h ≡ at + suc (size l + h) = omega arith in e)));
        many = let e = many_at false c in let f = d.many in let g = w.none in omega arith;
      }

module _ {A : Type 0} (m : ℕ) (pos_m : 0 < m) where
  whole_leaf : (a : A) → IsWhole m (Leaf a)
  whole_leaf a = record {
    rank_one = rank_leaf m pos_m a;
    no_hole = refl;
    all = refl;
    same = λ x y. refl;
    nowhere = refl;
    none_below = λ at. refl;
    none = refl;
  }

  join : (b : A) (l r : BTree A) → is_critical m (Node b l r) ≡ false → Cut m l → Cut m r → Cut m (Node b l r)
  join b l r c (inl wl) (inl wr) =
      let k : rank m (Node b l r) ≡ 1 =
      let p = rank_pos m pos_m (Node b l r) in let f = wl.rank_one in let g = wr.rank_one in
      elim (when_not m b l r c) as (λ _. rank m (Node b l r) ≡ 1) [ inl u ↦ omega arith | inr v ↦ omega arith ] in
      inl (join_whole m b l r c k wl wr)
  join b l r c (inr (h, b', l', r', d)) (inl wr) =
      let k : rank m l ≡ rank m (Node b l r) =
      let p = rank_left m pos_m b l r in let q = rank_pos m pos_m l' in let e = d.left_less in let g = wr.rank_one in
      elim (when_not m b l r c) as (λ _. rank m l ≡ rank m (Node b l r)) [ inl u ↦ omega arith | inr v ↦ omega arith ] in
      inr (suc h, b', l', r', join_left m b l r h b' l' r' c k d wr)
  join b l r c (inl wl) (inr (h, b', l', r', d)) =
      let k : rank m r ≡ rank m (Node b l r) =
      let p = rank_right m pos_m b l r in let q = rank_pos m pos_m l' in let e = d.left_less in let g = wl.rank_one in
      elim (when_not m b l r c) as (λ _. rank m r ≡ rank m (Node b l r)) [ inl u ↦ omega arith | inr v ↦ omega arith ] in
      inr (suc (size l + h), b', l', r', join_right m b l r h b' l' r' c k wl d)
  join b l r c (inr (h, b', l', r', d)) (inr (h2, b2, l2, r2, d2)) =
      let q = rank_pos m pos_m l' in let q2 = rank_pos m pos_m l2 in let e = d.left_less in let e2 = d2.left_less in
      let both = rank_both m pos_m b l r in
      let bad : ⊥ = elim (when_not m b l r c) as (λ _. ⊥) [ inl u ↦ omega arith | inr v ↦ omega arith ] in
      absurd bad

  pub cut : (t : BTree A) → Cut m t
  cut (Leaf a) = inl (whole_leaf a)
  cut (Node b l r) =
      elim (true_or_false (is_critical m (Node b l r))) as (λ _. Cut m (Node b l r)) [
        | inl c ↦ inr (0, b, l, r, critical_node m b l r c)
        | inr c ↦ join b l r c (cut l) (cut r)
      ]

  -- a bridge owns at most m nodes
  pub own_few : (t : BTree A) → own (part_of m t) ≤ m
  own_few t =
      let e = (ranked m pos_m t).enough in
      elim (cut t) as (λ _. own (part_of m t) ≤ m) [
        | inl w ↦ let f = w.all in let g = ap (λ k. m * k) w.rank_one in omega arith
        | inr (h, b, l, r, d) ↦
            let f = d.rest in let g = ap (λ k. m * k) d.rank_same in let n = (ranked m pos_m (Node b l r)).least in omega arith
      ]

  -- it has at most one hole
  pub one_hole : (t : BTree A) → holes (part_of m t) ≤ 1
  one_hole t = elim (cut t) as (λ _. holes (part_of m t) ≤ 1) [
    | inl w ↦ let f = w.no_hole in omega arith
    | inr (h, b, l, r, d) ↦ let f = d.one_hole in omega arith
  ]
