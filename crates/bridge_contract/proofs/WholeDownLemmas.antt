-- What all bridges of a tree pass down may be joined, and the values at their roots are those that come down the tree.
use Rattle.op_laws.specs.declared.TheConstants.{MAX_ELEMENTS}
use Rattle.std.proofs.Common.{◌≡◌, ℕ, zero, suc, ◌+◌, ◌-◌, ◌*◌, ◌<◌, ◌≤◌, ◌⊎◌, Bool, true, false, cond, nat_lt, ℤ, List, [], ◌∷◌, ◌++◌, length, get_or, map, refl, sym, ◌∙◌, ap, subst, arith, inl, inr, Option, Some, None}
use Rattle.std.proofs.lemmas.Bool.{cases_lt}
use Rattle.std.proofs.lemmas.List.{map-append}
use Rattle.op_laws.specs.Trees.{BTree, Leaf, Node, size, sub_at, is_leaf, Each}
use Rattle.op_laws.specs.TreeFolds.{Downward}
use Rattle.bin_tree.proofs.TreeLemmas.{if_lt, if_ge, size_pos, within_at, IsNodeAt, sub_at-top, sub_at-left, sub_at-right}
use Rattle.bin_tree.proofs.Places.{sub_sub, is_node_at}
use Rattle.m_bridges.specs.Parts.{Part, End, Stop, Join, part_of, own, holes, hole_of, cut_at}
use Rattle.m_bridges.specs.Bridges.{bridge_at, bridges_below, bridges}
use Rattle.m_bridges.specs.declared.bridge.Bridge.{Bridge}
use Rattle.m_bridges.specs.Places.{part_at}
use Rattle.m_bridges.proofs.Cuts.{Cut, cut, IsWhole, IsHoled}
use Rattle.bridge_contract.specs.Downs.{first_some, below_hole, one_more, path_length, LeadsDown, Fallen, Lands, Splits, preorder, downs, FitsDown, AreFallen, AreDowns}
use Rattle.bridge_contract.specs.DownsOf.{down_at, DownsOf}
use Rattle.bridge_contract.specs.OwnNodes.{depth_at}
use Rattle.bridge_contract.specs.declared.down_summary.DownSummary.{DownSummary}
use Rattle.bridge_contract.specs.declared.down_summary.DownSummary.TheVariants.{End as Ended, Both}
use Rattle.bridge_contract.proofs.DownLaws.{DownLaws}
use Rattle.bridge_contract.proofs.PassLemmas.{depth_small}
use Rattle.bridge_contract.proofs.WayLemmas.{some_two, two_same, first_some-none, one_more_is, path_whole, below_whole}
use Rattle.bridge_contract.proofs.WholeLemmas.{part_is, part_at_root}

-- the path to a hole has the nodes strictly above it, and the hole
path_is : (s : BTree (List ℤ)) (h : ℕ) → h < size s → is_leaf (sub_at s h) ≡ false → path_length (cut_at s (Some h)) ≡ 1 + depth_at s h
path_is (Leaf a) h w e = absurd (cc)
path_is (Node b l r) zero w e = refl
path_is (Node b l r) (suc h) w e =
    elim (cases_lt h (size l)) as (λ _. path_length (cut_at (Node b l r) (Some (suc h))) ≡ 1 + depth_at (Node b l r) (suc h)) [
      | inl p ↦
          let cut_is = if_lt h (size l) (Join b (cut_at l (Some h)) (cut_at r None)) (Join b (cut_at l None) (cut_at r (Some (h - size l)))) p in
          let depth_is = if_lt h (size l) (depth_at l h) (depth_at r (h - size l)) p in
          let inner = path_is l h p (ap is_leaf (sym (sub_at-left b l r h p)) ∙ e) in
          let none = path_whole r in
          let sum : path_length (cut_at l (Some h)) + path_length (cut_at r None) ≡ 1 + depth_at l h = omega arith in
          let more = one_more_is (1 + depth_at l h) (omega arith) in
          ap path_length cut_is ∙ ap one_more sum ∙ more ∙ ap (λ d. 1 + (1 + d)) (sym depth_is)
      | inr q ↦
          let j : h ≡ size l + (h - size l) = omega arith in
          let cut_is = if_ge h (size l) (Join b (cut_at l (Some h)) (cut_at r None)) (Join b (cut_at l None) (cut_at r (Some (h - size l)))) q in
          let depth_is = if_ge h (size l) (depth_at l h) (depth_at r (h - size l)) q in
          let inner = path_is r (h - size l) (omega arith) (ap is_leaf (sym (sub_at-right b l r h (h - size l) j)) ∙ e) in
          let none = path_whole l in
          let sum : path_length (cut_at l None) + path_length (cut_at r (Some (h - size l))) ≡ 1 + depth_at r (h - size l) = omega arith in
          let more = one_more_is (1 + depth_at r (h - size l)) (omega arith) in
          ap path_length cut_is ∙ ap one_more sum ∙ more ∙ ap (λ d. 1 + (1 + d)) (sym depth_is)
    ]

module _ {V D : Type 0} (k : Downward (List ℤ) V D) where
  pub down_at-top : (c : V) (t : BTree (List ℤ)) → down_at k c t 0 ≡ c
  down_at-top c (Leaf a) = refl
  down_at-top c (Node b l r) = refl

  pub down_left : (c : V) (b : List ℤ) (l r : BTree (List ℤ)) (i : ℕ) → i < size l → down_at k c (Node b l r) (suc i) ≡ down_at k (k.down c (k.left b)) l i
  down_left c b l r i p = if_lt i (size l) (down_at k (k.down c (k.left b)) l i) (down_at k (k.down c (k.right b)) r (i - size l)) p

  pub down_right : (c : V) (b : List ℤ) (l r : BTree (List ℤ)) (i j : ℕ) → i ≡ size l + j → down_at k c (Node b l r) (suc i) ≡ down_at k (k.down c (k.right b)) r j
  down_right c b l r i j e = if_ge i (size l) (down_at k (k.down c (k.left b)) l i) (down_at k (k.down c (k.right b)) r (i - size l)) (omega arith) ∙ ap (down_at k (k.down c (k.right b)) r) (omega arith)

  -- the values below a place come from the value there
  pub down_sub : (c : V) (t : BTree (List ℤ)) (i j : ℕ) → i < size t → j < size (sub_at t i) → down_at k c t (i + j) ≡ down_at k (down_at k c t i) (sub_at t i) j
  down_sub c (Leaf a) i j h g = refl
  down_sub c (Node b l r) zero j h g = ap (down_at k c (Node b l r)) (let e : 0 + j ≡ j = omega arith in e)
  down_sub c (Node b l r) (suc i) j h g =
      let back : suc i + j ≡ suc (i + j) = omega arith in
      elim (cases_lt i (size l)) as (λ _. down_at k c (Node b l r) (suc i + j) ≡ down_at k (down_at k c (Node b l r) (suc i)) (sub_at (Node b l r) (suc i)) j) [
        | inl p ↦
            let e = sub_at-left b l r i p in let w = within_at l i p in let s = ap size e in
            ap (down_at k c (Node b l r)) back ∙ down_left c b l r (i + j) (omega arith) ∙ down_sub (k.down c (k.left b)) l i j p (omega arith)
            ∙ ap (λ x. down_at k x (sub_at l i) j) (sym (down_left c b l r i p)) ∙ ap (λ x. down_at k (down_at k c (Node b l r) (suc i)) x j) (sym e)
        | inr q ↦
            let f : i ≡ size l + (i - size l) = omega arith in
            let e = sub_at-right b l r i (i - size l) f in let s = ap size e in
            ap (down_at k c (Node b l r)) back ∙ down_right c b l r (i + j) (i - size l + j) (omega arith) ∙ down_sub (k.down c (k.right b)) r (i - size l) j (omega arith) (omega arith)
            ∙ ap (λ x. down_at k x (sub_at r (i - size l)) j) (sym (down_right c b l r i (i - size l) f)) ∙ ap (λ x. down_at k (down_at k c (Node b l r) (suc i)) x j) (sym e)
      ]

  -- the values below a hole
  below_is : (c : V) (s : BTree (List ℤ)) (h : ℕ) (b : List ℤ) (l r : BTree (List ℤ)) → h < size s → sub_at s h ≡ Node b l r
      → below_hole k c (cut_at s (Some h)) ≡ Some (k.down (down_at k c s h) (k.left b), k.down (down_at k c s h) (k.right b))
  below_is c (Leaf a) h b l r w e = absurd (cc)
  below_is c (Node a x y) zero b l r w e = let same : a ≡ b = cc in ap (λ (v : List ℤ). some_two (k.down c (k.left v)) (k.down c (k.right v))) same
  below_is c (Node a x y) (suc h) b l r w e =
      elim (cases_lt h (size x)) as (λ _. below_hole k c (cut_at (Node a x y) (Some (suc h))) ≡ Some (k.down (down_at k c (Node a x y) (suc h)) (k.left b), k.down (down_at k c (Node a x y) (suc h)) (k.right b))) [
        | inl p ↦
            ap (below_hole k c) (if_lt h (size x) (Join a (cut_at x (Some h)) (cut_at y None)) (Join a (cut_at x None) (cut_at y (Some (h - size x)))) p)
            ∙ ap (λ o. first_some (below_hole k (k.down c (k.left a)) (cut_at x (Some h))) o) (below_whole k (k.down c (k.right a)) y)
            ∙ first_some-none (below_hole k (k.down c (k.left a)) (cut_at x (Some h)))
            ∙ below_is (k.down c (k.left a)) x h b l r p (sym (sub_at-left a x y h p) ∙ e)
            ∙ ap (λ (v : V). some_two (k.down v (k.left b)) (k.down v (k.right b))) (sym (down_left c a x y h p))
        | inr q ↦
            let f : h ≡ size x + (h - size x) = omega arith in
            ap (below_hole k c) (if_ge h (size x) (Join a (cut_at x (Some h)) (cut_at y None)) (Join a (cut_at x None) (cut_at y (Some (h - size x)))) q)
            ∙ ap (λ o. first_some o (below_hole k (k.down c (k.right a)) (cut_at y (Some (h - size x))))) (below_whole k (k.down c (k.left a)) x)
            ∙ below_is (k.down c (k.right a)) y (h - size x) b l r (omega arith) (sym (sub_at-right a x y h (h - size x) f) ∙ e)
            ∙ ap (λ (v : V). some_two (k.down v (k.left b)) (k.down v (k.right b))) (sym (down_right c a x y h (h - size x) f))
      ]

module _ {V D : Type 0} (k : Downward (List ℤ) V D) (takes : List ℤ → Type 0) (fits : V → ℕ → Type 0) (fits_way : D → ℕ → Type 0) (laws : DownLaws k takes fits fits_way) (t : BTree (List ℤ)) where
  parted : (bs cs : List Bridge) (ss : List (DownSummary D)) → DownsOf k fits fits_way t (bs ++ cs) ss
      → (us : List (DownSummary D)) × (vs : List (DownSummary D)) × (ss ≡ us ++ vs) × DownsOf k fits fits_way t bs us × DownsOf k fits fits_way t cs vs
  parted [] cs ss x = ([], ss, refl, tt, x)
  parted (b ∷ bs) cs [] x = absurd x
  parted (b ∷ bs) cs (s ∷ ss) x = let (us, vs, e, y, z) = parted bs cs ss x.1 in (s ∷ us, vs, ap (λ q. s ∷ q) e, (x.0, y), z)

  abbrev pub value_at : V → Bridge → V
  value_at c b = down_at k c t b.root

  -- the parts are the preorder of a tree, whose values are those at the roots
  abbrev pub IsFallenOf : BTree (List ℤ) → ℕ → List Bridge → List (DownSummary D) → Type 0
  IsFallenOf s p bs ss = (x : Fallen D) × (preorder x ≡ ss) × ((n : ℕ) → n + size s ≤ size t + 1 → FitsDown fits_way n x)
      × ((top c : V) (n : ℕ) → n + size s ≤ size t + 1 → fits c n → c ≡ down_at k top t p → downs k c x ≡ map (value_at top) bs)

  module _ (m : ℕ) (pos_m : 0 < m) (few : size t ≤ MAX_ELEMENTS) where
    whole_case : (s : BTree (List ℤ)) (p : ℕ) → p < size t → sub_at t p ≡ s → IsWhole m s → (ss : List (DownSummary D)) → DownsOf k fits fits_way t (bridge_at m p s ∷ []) ss → IsFallenOf s p (bridge_at m p s ∷ []) ss
    whole_case s p h e w [] x = absurd x
    whole_case s p h e w (u ∷ v ∷ ss) x = absurd x.1
    whole_case s p h e w (Both l r n ∷ []) x =
        let y = subst (λ q. LeadsDown k fits fits_way q (Both l r n)) (part_at_root m pos_m t s p e) x.0 in let a = y.0 in let b = w.no_hole in absurd (omega arith)
    whole_case s p h e w (Ended ∷ []) x = let some = size_pos s in (Lands, refl, (λ n q. omega arith), (λ top c n q f is. ap (λ z. z ∷ []) is))

    holed_case : (s : BTree (List ℤ)) (p h : ℕ) (b : List ℤ) (l r : BTree (List ℤ)) → p < size t → sub_at t p ≡ s → IsHoled m s h b l r
        → (pl pr : ℕ) → pl ≡ p + (h + 1) → pr ≡ p + (h + 1 + size l) → (cs ds : List Bridge)
        → ((us : List (DownSummary D)) → DownsOf k fits fits_way t cs us → IsFallenOf l pl cs us) → ((vs : List (DownSummary D)) → DownsOf k fits fits_way t ds vs → IsFallenOf r pr ds vs)
        → (ss : List (DownSummary D)) → DownsOf k fits fits_way t (bridge_at m p s ∷ (cs ++ ds)) ss → IsFallenOf s p (bridge_at m p s ∷ (cs ++ ds)) ss
    holed_case s p h b l r pw e d pl pr el er cs ds jl jr [] x = absurd x
    holed_case s p h b l r pw e d pl pr el er cs ds jl jr (Ended ∷ ss) x =
        let y = subst (λ q. LeadsDown k fits fits_way q Ended) (part_at_root m pos_m t s p e) x.0 in let one = d.one_hole in absurd (omega arith)
    holed_case s p h b l r pw e d pl pr el er cs ds jl jr (Both wl wr n ∷ ss) x =
        let y = subst (λ q. LeadsDown k fits fits_way q (Both wl wr n)) (part_at_root m pos_m t s p e ∙ part_is m pos_m s ∙ ap (cut_at s) d.place) x.0 in
        let (us, vs, is, xl, xr) = parted cs ds ss x.1 in
        let (tl, prel, fl, vl) = jl us xl in
        let (tr, prer, fr, vr) = jr vs xr in
        let here = ap size d.here in let sizel = size_pos l in let sizer = size_pos r in
        let path = path_is s h d.within (ap is_leaf d.here) in let depth = depth_small s h d.within in let weight = y.1 in
        let inside = within_at t p pw in let same = ap size e in let hw = d.within in let below_h = within_at s h d.within in
        let light_l : n + size l ≤ size s = omega arith in
        let light_r : n + size r ≤ size s = omega arith in
        let small : n + 1 ≤ size s = omega arith in
        -- the values at the two children of the hole
        let left_is : (top c : V) → c ≡ down_at k top t p → k.down (down_at k c s h) (k.left b) ≡ down_at k top t pl =
        λ top c is. sym (ap (down_at k top t) el ∙ down_sub k top t p (h + 1) pw (omega arith) ∙ ap (λ z. down_at k z (sub_at t p) (h + 1)) (sym is) ∙ ap (λ z. down_at k c z (h + 1)) e
        ∙ down_sub k c s h 1 hw (omega arith) ∙ ap (λ z. down_at k (down_at k c s h) z 1) d.here
        ∙ down_left k (down_at k c s h) b l r 0 sizel ∙ down_at-top k (k.down (down_at k c s h) (k.left b)) l) in
        let far : h + 1 + size l ≡ h + suc (size l) = omega arith in
        let right_is : (top c : V) → c ≡ down_at k top t p → k.down (down_at k c s h) (k.right b) ≡ down_at k top t pr =
        λ top c is. sym (ap (down_at k top t) er ∙ down_sub k top t p (h + 1 + size l) pw (omega arith) ∙ ap (λ z. down_at k z (sub_at t p) (h + 1 + size l)) (sym is) ∙ ap (λ z. down_at k c z (h + 1 + size l)) e
        ∙ ap (down_at k c s) far ∙ down_sub k c s h (suc (size l)) hw (omega arith) ∙ ap (λ z. down_at k (down_at k c s h) z (suc (size l))) d.here
        ∙ down_right k (down_at k c s h) b l r (size l) 0 (omega arith) ∙ down_at-top k (k.down (down_at k c s h) (k.right b)) r) in (
          Splits wl wr n tl tr,
          ap (λ q. Both wl wr n ∷ (q ++ preorder tr)) prel ∙ ap (λ q. Both wl wr n ∷ (us ++ q)) prer ∙ ap (λ q. Both wl wr n ∷ q) (sym is),
          (λ q room. (omega arith, y.2, y.3, fl (q + n) (omega arith), fr (q + n) (omega arith))),
          (λ top c q room fc at.
              let made = sym (y.4 c q (omega arith) fc) ∙ below_is k c s h b l r hw d.here in
              let both = two_same (k.down c wl) (k.down c wr) (k.down (down_at k c s h) (k.left b)) (k.down (down_at k c s h) (k.right b)) made in
              let ml = both.0 in let mr = both.1 in
              let il = vl top (k.down c wl) (q + n) (omega arith) (laws.down_fits c q wl n (omega arith) fc y.2) (ml ∙ left_is top c at) in
              let ir = vr top (k.down c wr) (q + n) (omega arith) (laws.down_fits c q wr n (omega arith) fc y.3) (mr ∙ right_is top c at) in
              ap (λ z. z ∷ (downs k (k.down c wl) tl ++ downs k (k.down c wr) tr)) at
              ∙ ap (λ z. down_at k top t p ∷ (z ++ downs k (k.down c wr) tr)) il ∙ ap (λ z. down_at k top t p ∷ (map (value_at top) cs ++ z)) ir
              ∙ ap (λ z. down_at k top t p ∷ z) (sym (map-append (value_at top) cs ds))),
        )

    -- by induction on a bound of the size
    fallen_to : (n : ℕ) (s : BTree (List ℤ)) (p : ℕ) → size s ≤ n → p < size t → sub_at t p ≡ s → (ss : List (DownSummary D)) → DownsOf k fits fits_way t (bridges m p s) ss → IsFallenOf s p (bridges m p s) ss
    fallen_to zero s p q h e ss x = let a = size_pos s in absurd (omega arith)
    fallen_to (suc n) s p q h e ss x =
        elim (cut m pos_m s) as (λ _. IsFallenOf s p (bridges m p s) ss) [
          | inl w ↦
              let none : bridges m p s ≡ bridge_at m p s ∷ [] = ap (λ y. bridge_at m p s ∷ y) (w.none_below p) in
              subst (λ bs. IsFallenOf s p bs ss) (sym none) (whole_case s p h e w ss (subst (λ bs. DownsOf k fits fits_way t bs ss) none x))
          | inr (i, b, l, r, d) ↦
              let two : bridges m p s ≡ bridge_at m p s ∷ (bridges m (1 + (p + i)) l ++ bridges m (1 + (p + i) + size l) r) = ap (λ y. bridge_at m p s ∷ y) (d.below p) in
              let z = ap size e in let kw = d.within in let rest = d.rest in let inside = within_at t p h in
              let there : sub_at t (p + i) ≡ Node b l r = sub_sub t p i h (omega arith) ∙ (ap (λ y. sub_at y i) e ∙ d.here) in
              let node = is_node_at t (p + i) (omega arith) b l r there in
              let wn = node.within in let pl = size_pos l in let pr = size_pos r in
              let al : sub_at t (1 + (p + i)) ≡ l = ap (sub_at t) (let f : 1 + (p + i) ≡ p + i + 1 = omega arith in f) ∙ node.left in
              let ar : sub_at t (1 + (p + i) + size l) ≡ r = ap (sub_at t) (let f : 1 + (p + i) + size l ≡ p + i + 1 + size l = omega arith in f) ∙ node.right in
              let less = within_at s i kw in let nz = ap size d.here in
              subst (λ bs. IsFallenOf s p bs ss) (sym two)
              (holed_case s p i b l r h e d (1 + (p + i)) (1 + (p + i) + size l) (omega arith) (omega arith) (bridges m (1 + (p + i)) l) (bridges m (1 + (p + i) + size l) r)
              (λ us y. fallen_to n l (1 + (p + i)) (omega arith) (omega arith) al us y)
              (λ vs y. fallen_to n r (1 + (p + i) + size l) (omega arith) (omega arith) ar vs y)
              ss (subst (λ bs. DownsOf k fits fits_way t bs ss) two x))
        ]

    -- the parts of all bridges may be joined
    pub may_fall : (ss : List (DownSummary D)) → DownsOf k fits fits_way t (bridges m 0 t) ss → AreFallen fits_way ss
    may_fall ss x =
        let (y, is, fit, values) = fallen_to (size t) t 0 (omega arith) (size_pos t) (sub_at-top t) ss x in
        (y, is, fit 1 (omega arith))

    -- and give the values at their roots
    pub falls_are : (c : V) → fits c 1 → (ss : List (DownSummary D)) (vs : List V) → DownsOf k fits fits_way t (bridges m 0 t) ss → AreDowns k c ss vs → vs ≡ map (value_at c) (bridges m 0 t)
    falls_are c fc ss vs x a =
        let (y, is, fit, values) = fallen_to (size t) t 0 (omega arith) (size_pos t) (sub_at-top t) ss x in
        a y is ∙ values c c 1 (omega arith) fc (sym (down_at-top k c t))
