-- What stands at a bridge's own places is what stands there in the whole tree, in order.
use Rattle.std.proofs.Common.{◌≡◌, ℕ, zero, suc, ◌+◌, ◌-◌, ◌<◌, ◌≤◌, ◌⊎◌, false, ℤ, List, [], ◌∷◌, ◌++◌, length, length-append, get_or, map, refl, sym, ◌∙◌, ap, subst, arith, inl, inr, Option, Some, None, append_assoc}
use Rattle.std.proofs.lemmas.Bool.{cases_lt}
use Rattle.std.proofs.lemmas.List.{append-nil, get_or_append_left, get_or-append_right, length-map, get_or-map}
use Rattle.std.proofs.lemmas.Option.{slice_get-get_or}
use Rattle.std.specs.Prelude.{slice_get}
use Rattle.op_laws.specs.Trees.{BTree, Leaf, Node, size, sub_at, is_leaf, column}
use Rattle.op_laws.specs.TreeFolds.{Downward, values_down}
use Rattle.bin_tree.proofs.TreeLemmas.{if_lt, if_ge, size_pos, within_at, sub_at-left, sub_at-right, sub_at-top, length-column, get_or-column}
use Rattle.bin_tree.proofs.Places.{sub_sub, is_node_at}
use Rattle.m_bridges.specs.Parts.{Part, End, Stop, Join, cut_at, hung}
use Rattle.m_bridges.specs.Places.{HoleFits, IsBridgeOf, part_at, back, own_place_from, own_place}
use Rattle.m_bridges.specs.declared.bridge.Bridge.{Bridge}
use Rattle.bridge_contract.specs.OwnNodes.{own_subs, left_below, right_below}
use Rattle.bridge_contract.specs.Downs.{own_downs}
use Rattle.bridge_contract.specs.DownsOf.{down_at}
use Rattle.bridge_contract.proofs.WholeDownLemmas.{down_sub, down_left, down_right, down_at-top}

-- the second list is the first without the n entries behind the one at h
pub record IsGapped {X : Type 0} (xs ys : List X) (h n : ℕ) : Type 0 where
  pub front : List X
  pub middle : List X
  pub rest : List X
  pub whole : xs ≡ front ++ (middle ++ rest)
  pub own : ys ≡ front ++ rest
  pub near : length front ≡ h + 1
  pub wide : length middle ≡ n

module _ {X : Type 0} (xs ys : List X) (h n : ℕ) (gap : IsGapped xs ys h n) where
  pub entry_before : (j : ℕ) (d : X) → j ≤ h → get_or ys j d ≡ get_or xs j d
  entry_before j d p =
      let near = gap.near in let within : j < length gap.front = omega arith in
      ap (λ zs. get_or zs j d) gap.own ∙ get_or_append_left gap.front gap.rest d j within
      ∙ sym (ap (λ zs. get_or zs j d) gap.whole ∙ get_or_append_left gap.front (gap.middle ++ gap.rest) d j within)

  pub entry_after : (j : ℕ) (d : X) → h < j → get_or ys j d ≡ get_or xs (j + n) d
  entry_after j d p =
      let same : j - (h + 1) ≡ j + n - (h + 1) - n = omega arith in
      ap (λ zs. get_or zs j d) gap.own ∙ get_or-append_right gap.front gap.rest (h + 1) j d gap.near (omega arith)
      ∙ ap (λ i. get_or gap.rest i d) same
      ∙ sym (ap (λ zs. get_or zs (j + n) d) gap.whole ∙ get_or-append_right gap.front (gap.middle ++ gap.rest) (h + 1) (j + n) d gap.near (omega arith)
      ∙ get_or-append_right gap.middle gap.rest n (j + n - (h + 1)) d gap.wide (omega arith))

  pub gapped_length : length ys + n ≡ length xs
  gapped_length =
      let a = ap length gap.own ∙ length-append gap.front gap.rest in
      let b = ap length gap.whole ∙ length-append gap.front (gap.middle ++ gap.rest) in
      let c = length-append gap.middle gap.rest in let w = gap.wide in omega arith

module _ {X : Type 0} (a : X) where
  -- a node in front, and a list behind
  gap_left : (xs ys zs : List X) (h n : ℕ) → IsGapped xs ys h n → IsGapped (a ∷ (xs ++ zs)) (a ∷ (ys ++ zs)) (suc h) n
  gap_left xs ys zs h n gap = record {
    front = a ∷ gap.front;
    middle = gap.middle;
    rest = gap.rest ++ zs;
    whole = ap (λ us. a ∷ (us ++ zs)) gap.whole ∙ ap (λ us. a ∷ us) (append_assoc gap.front (gap.middle ++ gap.rest) zs) ∙ ap (λ us. a ∷ (gap.front ++ us)) (append_assoc gap.middle gap.rest zs);
    own = ap (λ us. a ∷ (us ++ zs)) gap.own ∙ ap (λ us. a ∷ us) (append_assoc gap.front gap.rest zs);
    near = let e = gap.near in omega arith;
    wide = gap.wide;
  }

  -- a node in front, and a list before
  gap_right : (xs ys zs : List X) (h i n : ℕ) → h ≡ length zs + i → IsGapped xs ys i n → IsGapped (a ∷ (zs ++ xs)) (a ∷ (zs ++ ys)) (suc h) n
  gap_right xs ys zs h i n at gap = record {
    front = a ∷ (zs ++ gap.front);
    middle = gap.middle;
    rest = gap.rest;
    whole = ap (λ us. a ∷ (zs ++ us)) gap.whole ∙ ap (λ us. a ∷ us) (sym (append_assoc zs gap.front (gap.middle ++ gap.rest)));
    own = ap (λ us. a ∷ (zs ++ us)) gap.own ∙ ap (λ us. a ∷ us) (sym (append_assoc zs gap.front gap.rest));
    near = let e = gap.near in let f = length-append zs gap.front in omega arith;
    wide = gap.wide;
  }

  gap_here : (zs : List X) (n : ℕ) → length zs ≡ n → IsGapped (a ∷ zs) (a ∷ []) 0 n
  gap_here zs n w = record {
    front = a ∷ [];
    middle = zs;
    rest = [];
    whole = ap (λ us. a ∷ us) (sym (append-nil zs));
    own = refl;
    near = refl;
    wide = w;
  }

-- ---- the part and what hangs below it

pub hung_whole : (s x y : BTree (List ℤ)) → hung (cut_at s None) x y ≡ s
hung_whole (Leaf a) x y = refl
hung_whole (Node b l r) x y = ap (λ u. Node b u (hung (cut_at r None) x y)) (hung_whole l x y) ∙ ap (Node b l) (hung_whole r x y)

pub hung_cut : (s : BTree (List ℤ)) (h : ℕ) (b : List ℤ) (l r : BTree (List ℤ)) → h < size s → sub_at s h ≡ Node b l r → hung (cut_at s (Some h)) l r ≡ s
hung_cut (Leaf a) h b l r w e = absurd (cc)
hung_cut (Node a x y) zero b l r w e =
    let f : x ≡ l = cc in let g : y ≡ r = cc in ap (λ u. Node a u r) (sym f) ∙ ap (Node a x) (sym g)
hung_cut (Node a x y) (suc h) b l r w e =
    elim (cases_lt h (size x)) as (λ _. hung (cut_at (Node a x y) (Some (suc h))) l r ≡ Node a x y) [
      | inl p ↦
          ap (λ c. hung c l r) (if_lt h (size x) (Join a (cut_at x (Some h)) (cut_at y None)) (Join a (cut_at x None) (cut_at y (Some (h - size x)))) p)
          ∙ ap (λ u. Node a u (hung (cut_at y None) l r)) (hung_cut x h b l r p (sym (sub_at-left a x y h p) ∙ e)) ∙ ap (Node a x) (hung_whole y l r)
      | inr q ↦
          let f : h ≡ size x + (h - size x) = omega arith in
          ap (λ c. hung c l r) (if_ge h (size x) (Join a (cut_at x (Some h)) (cut_at y None)) (Join a (cut_at x None) (cut_at y (Some (h - size x)))) q)
          ∙ ap (λ u. Node a u (hung (cut_at y (Some (h - size x))) l r)) (hung_whole x l r) ∙ ap (Node a x) (hung_cut y (h - size x) b l r (omega arith) (sym (sub_at-right a x y h (h - size x) f) ∙ e))
    ]

-- ---- the subtrees at own places

abbrev itself : BTree (List ℤ) → BTree (List ℤ)
itself s = s

subs_whole : (s x y : BTree (List ℤ)) → own_subs (cut_at s None) x y ≡ column itself s
subs_whole (Leaf a) x y = refl
subs_whole (Node b l r) x y =
    ap (λ u. u ∷ (own_subs (cut_at l None) x y ++ own_subs (cut_at r None) x y)) (hung_whole (Node b l r) x y)
    ∙ ap (λ us. Node b l r ∷ (us ++ own_subs (cut_at r None) x y)) (subs_whole l x y) ∙ ap (λ us. Node b l r ∷ (column itself l ++ us)) (subs_whole r x y)

subs_cut : (s : BTree (List ℤ)) (h : ℕ) (b : List ℤ) (l r : BTree (List ℤ)) → h < size s → sub_at s h ≡ Node b l r
    → IsGapped (column itself s) (own_subs (cut_at s (Some h)) l r) h (size l + size r)
subs_cut (Leaf a) h b l r w e = absurd (cc)
subs_cut (Node a x y) zero b l r w e =
    let top : Node a l r ≡ Node a x y = hung_cut (Node a x y) 0 b l r w e in
    let wide : length (column itself x ++ column itself y) ≡ size l + size r =
    let n = length-append (column itself x) (column itself y) in let u = length-column itself x in let v = length-column itself y in let z = ap size e in omega arith in
    subst (λ u. IsGapped (column itself (Node a x y)) (u ∷ []) 0 (size l + size r)) (sym top) (gap_here (Node a x y) (column itself x ++ column itself y) (size l + size r) wide)
subs_cut (Node a x y) (suc h) b l r w e =
    let top : hung (cut_at (Node a x y) (Some (suc h))) l r ≡ Node a x y = hung_cut (Node a x y) (suc h) b l r w e in
    elim (cases_lt h (size x)) as (λ _. IsGapped (column itself (Node a x y)) (own_subs (cut_at (Node a x y) (Some (suc h))) l r) (suc h) (size l + size r)) [
      | inl p ↦
          let c = if_lt h (size x) (Join a (cut_at x (Some h)) (cut_at y None)) (Join a (cut_at x None) (cut_at y (Some (h - size x)))) p in
          let here : own_subs (cut_at (Node a x y) (Some (suc h))) l r ≡ Node a x y ∷ (own_subs (cut_at x (Some h)) l r ++ column itself y) =
          ap (λ q. own_subs q l r) c
          ∙ ap (λ u. u ∷ (own_subs (cut_at x (Some h)) l r ++ own_subs (cut_at y None) l r)) (sym (ap (λ q. hung q l r) c) ∙ top)
          ∙ ap (λ us. Node a x y ∷ (own_subs (cut_at x (Some h)) l r ++ us)) (subs_whole y l r) in
          subst (λ us. IsGapped (column itself (Node a x y)) us (suc h) (size l + size r)) (sym here)
          (gap_left (Node a x y) (column itself x) (own_subs (cut_at x (Some h)) l r) (column itself y) h (size l + size r) (subs_cut x h b l r p (sym (sub_at-left a x y h p) ∙ e)))
      | inr q ↦
          let f : h ≡ size x + (h - size x) = omega arith in
          let c = if_ge h (size x) (Join a (cut_at x (Some h)) (cut_at y None)) (Join a (cut_at x None) (cut_at y (Some (h - size x)))) q in
          let here : own_subs (cut_at (Node a x y) (Some (suc h))) l r ≡ Node a x y ∷ (column itself x ++ own_subs (cut_at y (Some (h - size x))) l r) =
          ap (λ q. own_subs q l r) c
          ∙ ap (λ u. u ∷ (own_subs (cut_at x None) l r ++ own_subs (cut_at y (Some (h - size x))) l r)) (sym (ap (λ q. hung q l r) c) ∙ top)
          ∙ ap (λ us. Node a x y ∷ (us ++ own_subs (cut_at y (Some (h - size x))) l r)) (subs_whole x l r) in
          let n = length-column itself x in
          subst (λ us. IsGapped (column itself (Node a x y)) us (suc h) (size l + size r)) (sym here)
          (gap_right (Node a x y) (column itself y) (own_subs (cut_at y (Some (h - size x))) l r) (column itself x) h (h - size x) (size l + size r) (omega arith)
          (subs_cut y (h - size x) b l r (omega arith) (sym (sub_at-right a x y h (h - size x) f) ∙ e)))
    ]

-- ---- the values that come down to own places

module _ {V D : Type 0} (k : Downward (List ℤ) V D) where
  length-values : (c : V) (s : BTree (List ℤ)) → length (values_down k c s) ≡ size s
  length-values c (Leaf a) = refl
  length-values c (Node b l r) =
      let x = length-values (k.down c (k.left b)) l in let y = length-values (k.down c (k.right b)) r in
      let n = length-append (values_down k (k.down c (k.left b)) l) (values_down k (k.down c (k.right b)) r) in omega arith

  -- the values in preorder are those at the places
  pub value_down_at : (c : V) (s : BTree (List ℤ)) (i : ℕ) (d : V) → i < size s → get_or (values_down k c s) i d ≡ down_at k c s i
  value_down_at c (Leaf a) zero d w = refl
  value_down_at c (Leaf a) (suc i) d w = absurd (omega arith)
  value_down_at c (Node b l r) zero d w = refl
  value_down_at c (Node b l r) (suc i) d w =
      let n = length-values (k.down c (k.left b)) l in
      elim (cases_lt i (size l)) as (λ _. get_or (values_down k c (Node b l r)) (suc i) d ≡ down_at k c (Node b l r) (suc i)) [
        | inl p ↦
            get_or_append_left (values_down k (k.down c (k.left b)) l) (values_down k (k.down c (k.right b)) r) d i (omega arith)
            ∙ value_down_at (k.down c (k.left b)) l i d p ∙ sym (down_left k c b l r i p)
        | inr q ↦
            get_or-append_right (values_down k (k.down c (k.left b)) l) (values_down k (k.down c (k.right b)) r) (size l) i d n q
            ∙ value_down_at (k.down c (k.right b)) r (i - size l) d (omega arith) ∙ sym (down_right k c b l r i (i - size l) (omega arith))
      ]

  downs_whole : (c : V) (s : BTree (List ℤ)) → own_downs k c (cut_at s None) ≡ values_down k c s
  downs_whole c (Leaf a) = refl
  downs_whole c (Node b l r) =
      ap (λ us. c ∷ (us ++ own_downs k (k.down c (k.right b)) (cut_at r None))) (downs_whole (k.down c (k.left b)) l)
      ∙ ap (λ us. c ∷ (values_down k (k.down c (k.left b)) l ++ us)) (downs_whole (k.down c (k.right b)) r)

  downs_cut : (c : V) (s : BTree (List ℤ)) (h : ℕ) (b : List ℤ) (l r : BTree (List ℤ)) → h < size s → sub_at s h ≡ Node b l r
      → IsGapped (values_down k c s) (own_downs k c (cut_at s (Some h))) h (size l + size r)
  downs_cut c (Leaf a) h b l r w e = absurd (cc)
  downs_cut c (Node a x y) zero b l r w e =
      let us = values_down k (k.down c (k.left a)) x in let vs = values_down k (k.down c (k.right a)) y in
      gap_here c (us ++ vs) (size l + size r)
      (let n = length-append us vs in let u = length-values (k.down c (k.left a)) x in let v = length-values (k.down c (k.right a)) y in let z = ap size e in omega arith)
  downs_cut c (Node a x y) (suc h) b l r w e =
      elim (cases_lt h (size x)) as (λ _. IsGapped (values_down k c (Node a x y)) (own_downs k c (cut_at (Node a x y) (Some (suc h)))) (suc h) (size l + size r)) [
        | inl p ↦
            let is = if_lt h (size x) (Join a (cut_at x (Some h)) (cut_at y None)) (Join a (cut_at x None) (cut_at y (Some (h - size x)))) p in
            let here : own_downs k c (cut_at (Node a x y) (Some (suc h))) ≡ c ∷ (own_downs k (k.down c (k.left a)) (cut_at x (Some h)) ++ values_down k (k.down c (k.right a)) y) =
            ap (own_downs k c) is ∙ ap (λ us. c ∷ (own_downs k (k.down c (k.left a)) (cut_at x (Some h)) ++ us)) (downs_whole (k.down c (k.right a)) y) in
            subst (λ us. IsGapped (values_down k c (Node a x y)) us (suc h) (size l + size r)) (sym here)
            (gap_left c (values_down k (k.down c (k.left a)) x) (own_downs k (k.down c (k.left a)) (cut_at x (Some h))) (values_down k (k.down c (k.right a)) y) h (size l + size r)
            (downs_cut (k.down c (k.left a)) x h b l r p (sym (sub_at-left a x y h p) ∙ e)))
        | inr q ↦
            let f : h ≡ size x + (h - size x) = omega arith in
            let is = if_ge h (size x) (Join a (cut_at x (Some h)) (cut_at y None)) (Join a (cut_at x None) (cut_at y (Some (h - size x)))) q in
            let here : own_downs k c (cut_at (Node a x y) (Some (suc h))) ≡ c ∷ (values_down k (k.down c (k.left a)) x ++ own_downs k (k.down c (k.right a)) (cut_at y (Some (h - size x)))) =
            ap (own_downs k c) is ∙ ap (λ us. c ∷ (us ++ own_downs k (k.down c (k.right a)) (cut_at y (Some (h - size x))))) (downs_whole (k.down c (k.left a)) x) in
            let n = length-values (k.down c (k.left a)) x in
            subst (λ us. IsGapped (values_down k c (Node a x y)) us (suc h) (size l + size r)) (sym here)
            (gap_right c (values_down k (k.down c (k.right a)) y) (own_downs k (k.down c (k.right a)) (cut_at y (Some (h - size x)))) (values_down k (k.down c (k.left a)) x) h (h - size x) (size l + size r) (omega arith)
            (downs_cut (k.down c (k.right a)) y (h - size x) b l r (omega arith) (sym (sub_at-right a x y h (h - size x) f) ∙ e)))
      ]

-- ---- by places

-- an inner node and its children
inner_node : (x : BTree (List ℤ)) → is_leaf x ≡ false → (b : List ℤ) × (l : BTree (List ℤ)) × (r : BTree (List ℤ)) × (x ≡ Node b l r)
inner_node (Leaf a) e = absurd (cc)
inner_node (Node b l r) e = (b, l, r, refl)

-- the hole of a bridge, with the trees below it
record HoleNode (t : BTree (List ℤ)) (root h : ℕ) : Type 0 where
  value : List ℤ
  left : BTree (List ℤ)
  right : BTree (List ℤ)
  here : sub_at (sub_at t root) (h - root) ≡ Node value left right
  left_is : left_below t (Some h) ≡ left
  right_is : right_below t (Some h) ≡ right
  within : h - root < size (sub_at t root)
  wide : size (sub_at t h) ≡ 1 + size left + size right

hole_node : (t : BTree (List ℤ)) (root own h : ℕ) → root < size t → HoleFits t root own (Some h) → HoleNode t root h
hole_node t root own h w f =
    let (a, b, c, d) = f in
    let (v, l, r, is) = inner_node (sub_at t h) c in
    let inside = within_at t root w in
    let node = is_node_at t h (omega arith) v l r is in
    let there : sub_at t (root + (h - root)) ≡ sub_at t h = ap (sub_at t) (omega arith) in
    record {
      value = v;
      left = l;
      right = r;
      here = sym (sub_sub t root (h - root) w b) ∙ there ∙ is;
      left_is = node.left;
      right_is = ap (λ n. sub_at t (h + 1 + n)) (ap size node.left) ∙ node.right;
      within = b;
      wide = ap size is;
    }

module _ (t : BTree (List ℤ)) (root own : ℕ) (w : root < size t) where
  -- the part that is cut out
  abbrev cut_from : Option ℕ → Part (List ℤ)
  cut_from o = cut_at (sub_at t root) (back root o)

  hung_from : (o : Option ℕ) → HoleFits t root own o → hung (cut_from o) (left_below t o) (right_below t o) ≡ sub_at t root
  hung_from None f = hung_whole (sub_at t root) t t
  hung_from (Some h) f =
      let n = hole_node t root own h w f in
      ap (λ x. hung (cut_from (Some h)) x (right_below t (Some h))) n.left_is ∙ ap (hung (cut_from (Some h)) n.left) n.right_is
      ∙ hung_cut (sub_at t root) (h - root) n.value n.left n.right n.within n.here

  at_place : (h j : ℕ) → root + j ≤ h → own_place_from t root (Some h) j ≡ root + j
  at_place h j p = if_ge h (root + j) (root + j + (size (sub_at t h) - 1)) (root + j) p

  past_place : (h j n : ℕ) → h < root + j → size (sub_at t h) ≡ 1 + n → own_place_from t root (Some h) j ≡ root + (j + n)
  past_place h j n p e = if_lt h (root + j) (root + j + (size (sub_at t h) - 1)) (root + j) p ∙ (let z : root + j + (size (sub_at t h) - 1) ≡ root + (j + n) = omega arith in z)

  -- what is in a preorder list of the subtree at a place, and in the list with a gap at its number
  module _ {X : Type 0} (xs : List X) (at : ℕ → X) (long : length xs ≡ size (sub_at t root)) (is : (i : ℕ) (d : X) → i < size (sub_at t root) → get_or xs i d ≡ at (root + i)) where
    gapped_from : (h : ℕ) (f : HoleFits t root own (Some h)) (ys : List X) (n j : ℕ) (d : X) → size (sub_at t h) ≡ 1 + n → IsGapped xs ys (h - root) n → j < own → get_or ys j d ≡ at (own_place_from t root (Some h) j)
    gapped_from h f ys n j d wide gap g =
        let (a, b, c, e) = f in
        elim (cases_lt h (root + j)) as (λ _. get_or ys j d ≡ at (own_place_from t root (Some h) j)) [
          | inl p ↦ entry_after xs ys (h - root) n gap j d (omega arith) ∙ is (j + n) d (omega arith) ∙ ap at (sym (past_place h j n p wide))
          | inr p ↦ entry_before xs ys (h - root) n gap j d (omega arith) ∙ is j d (omega arith) ∙ ap at (sym (at_place h j p))
        ]

    gapped_long : (h : ℕ) (f : HoleFits t root own (Some h)) (ys : List X) (n : ℕ) → size (sub_at t h) ≡ 1 + n → IsGapped xs ys (h - root) n → length ys ≡ own
    gapped_long h f ys n wide gap = let (a, b, c, e) = f in let z = gapped_length xs ys (h - root) n gap in omega arith

  sub_is : (i : ℕ) (d : BTree (List ℤ)) → i < size (sub_at t root) → get_or (column itself (sub_at t root)) i d ≡ sub_at t (root + i)
  sub_is i d g = get_or-column itself (sub_at t root) i d g ∙ sym (sub_sub t root i w g)

  abbrev subs_of : Option ℕ → List (BTree (List ℤ))
  subs_of o = own_subs (cut_from o) (left_below t o) (right_below t o)

  subs_gap : (h : ℕ) (f : HoleFits t root own (Some h)) → (n : ℕ) × (size (sub_at t h) ≡ 1 + n) × IsGapped (column itself (sub_at t root)) (subs_of (Some h)) (h - root) n
  subs_gap h f =
      let n = hole_node t root own h w f in
      let same = ap (λ x. own_subs (cut_from (Some h)) x (right_below t (Some h))) n.left_is ∙ ap (own_subs (cut_from (Some h)) n.left) n.right_is in
      let wide = n.wide in (
        size n.left + size n.right,
        omega arith,
        subst (λ us. IsGapped (column itself (sub_at t root)) us (h - root) (size n.left + size n.right)) (sym same) (subs_cut (sub_at t root) (h - root) n.value n.left n.right n.within n.here),
      )

  subs_from : (o : Option ℕ) (f : HoleFits t root own o) (j : ℕ) (d : BTree (List ℤ)) → j < own → get_or (subs_of o) j d ≡ sub_at t (own_place_from t root o j)
  subs_from None f j d g = ap (λ us. get_or us j d) (subs_whole (sub_at t root) t t) ∙ sub_is j d (omega arith)
  subs_from (Some h) f j d g =
      let (n, wide, gap) = subs_gap h f in
      gapped_from (column itself (sub_at t root)) (sub_at t) (length-column itself (sub_at t root)) sub_is h f (subs_of (Some h)) n j d wide gap g

  subs_long : (o : Option ℕ) (f : HoleFits t root own o) → length (subs_of o) ≡ own
  subs_long None f = ap length (subs_whole (sub_at t root) t t) ∙ length-column itself (sub_at t root) ∙ sym f
  subs_long (Some h) f =
      let (n, wide, gap) = subs_gap h f in
      gapped_long (column itself (sub_at t root)) (sub_at t) (length-column itself (sub_at t root)) sub_is h f (subs_of (Some h)) n wide gap

  module _ {V D : Type 0} (k : Downward (List ℤ) V D) (top c : V) (start : c ≡ down_at k top t root) where
    down_is : (i : ℕ) (d : V) → i < size (sub_at t root) → get_or (values_down k c (sub_at t root)) i d ≡ down_at k top t (root + i)
    down_is i d g = value_down_at k c (sub_at t root) i d g ∙ ap (λ v. down_at k v (sub_at t root) i) start ∙ sym (down_sub k top t root i w g)

    abbrev downs_of : Option ℕ → List V
    downs_of o = own_downs k c (cut_from o)

    downs_gap : (h : ℕ) (f : HoleFits t root own (Some h)) → (n : ℕ) × (size (sub_at t h) ≡ 1 + n) × IsGapped (values_down k c (sub_at t root)) (downs_of (Some h)) (h - root) n
    downs_gap h f =
        let n = hole_node t root own h w f in let wide = n.wide in
        (size n.left + size n.right, omega arith, downs_cut k c (sub_at t root) (h - root) n.value n.left n.right n.within n.here)

    downs_from : (o : Option ℕ) (f : HoleFits t root own o) (j : ℕ) (d : V) → j < own → get_or (downs_of o) j d ≡ down_at k top t (own_place_from t root o j)
    downs_from None f j d g = ap (λ us. get_or us j d) (downs_whole k c (sub_at t root)) ∙ down_is j d (omega arith)
    downs_from (Some h) f j d g =
        let (n, wide, gap) = downs_gap h f in
        gapped_from (values_down k c (sub_at t root)) (down_at k top t) (length-values k c (sub_at t root)) down_is h f (downs_of (Some h)) n j d wide gap g

    downs_long : (o : Option ℕ) (f : HoleFits t root own o) → length (downs_of o) ≡ own
    downs_long None f = ap length (downs_whole k c (sub_at t root)) ∙ length-values k c (sub_at t root) ∙ sym f
    downs_long (Some h) f =
        let (n, wide, gap) = downs_gap h f in
        gapped_long (values_down k c (sub_at t root)) (down_at k top t) (length-values k c (sub_at t root)) down_is h f (downs_of (Some h)) n wide gap

-- the part of a bridge with what hangs below it is the subtree at its root
pub part_is_sub : (t : BTree (List ℤ)) (b : Bridge) → IsBridgeOf t b → hung (part_at t b) (left_below t b.hole) (right_below t b.hole) ≡ sub_at t b.root
part_is_sub t b is = hung_from t b.root b.own is.within b.hole is.hole

-- an entry of what is made of each subtree at an own place
pub sub_entry : {Y : Type 0} (f : BTree (List ℤ) → Y) (t : BTree (List ℤ)) (b : Bridge) (ys : List Y) (j : ℕ) → IsBridgeOf t b → ys ≡ map f (own_subs (part_at t b) (left_below t b.hole) (right_below t b.hole)) → j < b.own
    → slice_get ys j ≡ Some (f (sub_at t (own_place t b j)))
sub_entry f t b ys j is made g =
    let us = own_subs (part_at t b) (left_below t b.hole) (right_below t b.hole) in
    let long = subs_long t b.root b.own is.within b.hole is.hole in let same = length-map us f in
    ap (λ zs. slice_get zs j) made ∙ slice_get-get_or (map f us) j (f t) (omega arith)
    ∙ ap Some (get_or-map f us j t (f t) (omega arith) ∙ ap f (subs_from t b.root b.own is.within b.hole is.hole j t g))

-- an entry of what is made of each value that comes down to an own place
pub down_entry : {V D Y : Type 0} (k : Downward (List ℤ) V D) (f : V → Y) (t : BTree (List ℤ)) (b : Bridge) (top c : V) (ys : List Y) (j : ℕ) → IsBridgeOf t b → ys ≡ map f (own_downs k c (part_at t b)) → c ≡ down_at k top t b.root → j < b.own
    → slice_get ys j ≡ Some (f (down_at k top t (own_place t b j)))
down_entry k f t b top c ys j is made start g =
    let us = own_downs k c (part_at t b) in
    let long = downs_long t b.root b.own is.within k top c start b.hole is.hole in let same = length-map us f in
    ap (λ zs. slice_get zs j) made ∙ slice_get-get_or (map f us) j (f c) (omega arith)
    ∙ ap Some (get_or-map f us j c (f c) (omega arith) ∙ ap f (downs_from t b.root b.own is.within k top c start b.hole is.hole j c g))
