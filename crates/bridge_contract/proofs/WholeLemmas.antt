-- The summaries of all bridges of a tree.
use Rattle.op_laws.specs.declared.TheConstants.{MAX_ELEMENTS}
use Rattle.std.proofs.Common.{◌≡◌, ℕ, zero, suc, ◌+◌, ◌-◌, ◌<◌, ◌≤◌, ◌^◌, ◌⊎◌, Bool, true, false, cond, nat_lt, ℤ, List, [], ◌∷◌, ◌++◌, length, get_or, map, refl, sym, ◌∙◌, ap, subst, arith, inl, inr, Option, Some, None}
use Rattle.std.proofs.lemmas.Bool.{cases_lt}
use Rattle.std.proofs.lemmas.List.{map-append}
use Rattle.op_laws.specs.Trees.{BTree, Leaf, Node, size, sub_at, is_leaf, Each}
use Rattle.bin_tree.proofs.TreeLemmas.{if_lt, if_ge, size_pos, within_at, IsNodeAt, sub_at-top, sub_at-left, sub_at-right}
use Rattle.bin_tree.proofs.Places.{sub_sub, is_node_at}
use Rattle.m_bridges.specs.Parts.{Part, End, Stop, Join, part_of, cut_or_join, is_critical, own, holes, hung, hole_of, either, further}
use Rattle.m_bridges.specs.Bridges.{bridge_at, bridges_below, bridges}
use Rattle.m_bridges.specs.declared.bridge.Bridge.{Bridge}
use Rattle.m_bridges.proofs.Cuts.{Cut, cut, IsWhole, IsHoled, true_or_false, part_at as part_case, hole_at, one_hole, below_at}
use Rattle.op_laws.specs.TreeFolds.{Upward, fold_tree}
use Rattle.bridge_contract.proofs.Laws.{Laws}
use Rattle.m_bridges.specs.Parts.{cut_at}
use Rattle.bridge_contract.specs.Summaries.{Sums}
use Rattle.m_bridges.specs.Places.{HoleFits, IsBridgeOf, part_at, back}
use Rattle.bridge_contract.specs.Bridged.{Bridged, Ends, Leads, preorder, weight, up, ups, belows, FitsEach, AreBridged, AreUps}
use Rattle.bridge_contract.specs.declared.summary.Summary.{Summary}
use Rattle.bridge_contract.specs.declared.summary.Summary.TheVariants.{Value, Hole}
use Rattle.bridge_contract.proofs.CutLemmas.{each_sub}
use Rattle.bridge_contract.specs.SumsOf.{SumsOf}
use Rattle.bridge_contract.specs.AtRoots.{pair_below}

module _ (m : ℕ) (pos_m : 0 < m) where
  hole_size : (t : BTree (List ℤ)) (h : ℕ) → hole_of m t ≡ Some h → (h < size t) × (holes (part_of m t) ≡ 1)
  hole_size t h e = elim (cut m pos_m t) as (λ _. (h < size t) × (holes (part_of m t) ≡ 1)) [
    | inl w ↦ let f = w.nowhere in absurd (cc)
    | inr (k, b, l, r, d) ↦ let f = d.place in let same : k ≡ h = cc in let w = d.within in (omega arith, d.one_hole)
  ]

  joined_cut : (b : (List ℤ)) (l r : BTree (List ℤ)) (o p : Option ℕ) → hole_of m l ≡ o → hole_of m r ≡ p → holes (part_of m l) + holes (part_of m r) ≤ 1
      → cut_at (Node b l r) (either (further 1 o) (further (1 + size l) p)) ≡ Join b (cut_at l o) (cut_at r p)
  joined_cut b l r None None e f one = refl
  joined_cut b l r (Some h) None e f one =
      let w = (hole_size l h e).0 in
      ap (λ i. cut_at (Node b l r) (Some i)) (let q : 1 + h ≡ suc h = omega arith in q)
      ∙ if_lt h (size l) (Join b (cut_at l (Some h)) (cut_at r None)) (Join b (cut_at l None) (cut_at r (Some (h - size l)))) w
  joined_cut b l r None (Some h) e f one =
      ap (λ i. cut_at (Node b l r) (Some i)) (let q : 1 + size l + h ≡ suc (size l + h) = omega arith in q)
      ∙ (if_ge (size l + h) (size l) (Join b (cut_at l (Some (size l + h))) (cut_at r None)) (Join b (cut_at l None) (cut_at r (Some (size l + h - size l)))) (omega arith)
      ∙ ap (λ i. Join b (cut_at l None) (cut_at r (Some i))) (let q : size l + h - size l ≡ h = omega arith in q))
  joined_cut b l r (Some h) (Some i) e f one = let a = (hole_size l h e).1 in let c = (hole_size r i f).1 in absurd (omega arith)

  -- a part is what is above the first critical node
  pub part_is : (t : BTree (List ℤ)) → part_of m t ≡ cut_at t (hole_of m t)
  part_is (Leaf a) = refl
  part_is (Node b l r) =
      elim (true_or_false (is_critical m (Node b l r))) as (λ _. part_of m (Node b l r) ≡ cut_at (Node b l r) (hole_of m (Node b l r))) [
        | inl c ↦ part_case m b l r true c ∙ sym (ap (cut_at (Node b l r)) (hole_at m b l r true c))
        | inr c ↦
            let one = one_hole m pos_m (Node b l r) in let is = ap holes (part_case m b l r false c) in
            part_case m b l r false c
            ∙ (ap (λ p. Join b p (part_of m r)) (part_is l) ∙ (ap (λ q. Join b (cut_at l (hole_of m l)) q) (part_is r)
            ∙ (sym (joined_cut b l r (hole_of m l) (hole_of m r) refl refl (omega arith)) ∙ sym (ap (cut_at (Node b l r)) (hole_at m b l r false c)))))
      ]

  back_further : (p : ℕ) (o : Option ℕ) → back p (further p o) ≡ o
  back_further p None = refl
  back_further p (Some h) = ap Some (let q : p + h - p ≡ h = omega arith in q)

  -- the own nodes of the bridge of a root
  pub part_at_root : (t s : BTree (List ℤ)) (p : ℕ) → sub_at t p ≡ s → part_at t (bridge_at m p s) ≡ part_of m s
  part_at_root t s p e = ap (λ x. cut_at x (back p (further p (hole_of m s)))) e ∙ (ap (cut_at s) (back_further p (hole_of m s)) ∙ sym (part_is s))

  hole_case : (t s : BTree (List ℤ)) (p : ℕ) → p < size t → sub_at t p ≡ s → Cut m s → HoleFits t p (own (part_of m s)) (further p (hole_of m s))
  hole_case t s p h e (inl w) = subst (λ o. HoleFits t p (own (part_of m s)) (further p o)) (sym w.nowhere) (w.all ∙ ap size (sym e))
  hole_case t s p h e (inr (k, b, l, r, d)) =
      let z = ap size e in let kw = d.within in
      let there : sub_at t (p + k) ≡ Node b l r = sub_sub t p k h (omega arith) ∙ (ap (λ x. sub_at x k) e ∙ d.here) in
      let n = ap size there in let rest = d.rest in
      subst (λ o. HoleFits t p (own (part_of m s)) (further p o)) (sym d.place) (omega arith, omega arith, ap is_leaf there, omega arith)

  -- each bridge of a tree is a bridge by places
  pub is_bridge : (t s : BTree (List ℤ)) (p : ℕ) → p < size t → sub_at t p ≡ s → IsBridgeOf t (bridge_at m p s)
  is_bridge t s p h e = record { within = h; hole = hole_case t s p h e (cut m pos_m s) }

module _ {V G : Type 0} (k : Upward (List ℤ) V G) (takes : (List ℤ) → Type 0) (fits_v : V → ℕ → Type 0) (fits_g : G → ℕ → Type 0) (t : BTree (List ℤ)) where
  parted : (bs cs : List Bridge) (ss : List (Summary V G)) → SumsOf k takes fits_v fits_g t (bs ++ cs) ss → (us : List (Summary V G)) × (vs : List (Summary V G)) × (ss ≡ us ++ vs) × SumsOf k takes fits_v fits_g t bs us × SumsOf k takes fits_v fits_g t cs vs
  parted [] cs ss x = ([], ss, refl, tt, x)
  parted (b ∷ bs) cs [] x = absurd x
  parted (b ∷ bs) cs (s ∷ ss) x = let (us, vs, e, y, z) = parted bs cs ss x.1 in (s ∷ us, vs, ap (λ q. s ∷ q) e, (x.0, y), z)

  abbrev pub fold_at : Bridge → V
  fold_at b = fold_tree k (sub_at t b.root)

  abbrev pub pair_at : Bridge → Option (V × V)
  pair_at b = pair_below k t b.hole

  -- the summaries are the preorder of a tree, whose values are the folds at the roots, and those below holes the folds there
  abbrev pub IsJoined : BTree (List ℤ) → List Bridge → List (Summary V G) → Type 0
  IsJoined s bs ss = (x : Bridged V G) × (preorder x ≡ ss) × (weight x ≡ size s) × FitsEach fits_v fits_g x × (up k x ≡ fold_tree k s) × (ups k x ≡ map fold_at bs) × (belows k x ≡ map pair_at bs)

  module _ (m : ℕ) (pos_m : 0 < m) (few : size t ≤ MAX_ELEMENTS) (each : Each takes t) where
    whole_case : (s : BTree (List ℤ)) (p : ℕ) → p < size t → sub_at t p ≡ s → IsWhole m s → (ss : List (Summary V G)) → SumsOf k takes fits_v fits_g t (bridge_at m p s ∷ []) ss → IsJoined s (bridge_at m p s ∷ []) ss
    whole_case s p h e w [] x = absurd x
    whole_case s p h e w (u ∷ v ∷ ss) x = absurd x.1
    whole_case s p h e w (Hole g n ∷ []) x =
        let y = subst (λ q. Sums k takes fits_v fits_g q (Hole g n)) (part_at_root m pos_m t s p e) x.0 in let a = y.0 in let b = w.no_hole in absurd (omega arith)
    whole_case s p h e w (Value v n ∷ []) x =
        let y = subst (λ q. Sums k takes fits_v fits_g q (Value v n)) (part_at_root m pos_m t s p e) x.0 in
        let is : v ≡ fold_tree k s = sym (y.3 s s) ∙ ap (fold_tree k) (w.same s s) in
        (Ends v n, refl, y.1 ∙ w.all, y.2, is, ap (λ z. z ∷ []) (is ∙ ap (fold_tree k) (sym e)), sym (ap (λ o. pair_below k t (further p o) ∷ []) w.nowhere))

    holed_case : (s : BTree (List ℤ)) (p h : ℕ) (b : (List ℤ)) (l r : BTree (List ℤ)) → p < size t → sub_at t p ≡ s → IsHoled m s h b l r
        → (cs ds : List Bridge) → ((us : List (Summary V G)) → SumsOf k takes fits_v fits_g t cs us → IsJoined l cs us) → ((vs : List (Summary V G)) → SumsOf k takes fits_v fits_g t ds vs → IsJoined r ds vs)
        → (ss : List (Summary V G)) → SumsOf k takes fits_v fits_g t (bridge_at m p s ∷ (cs ++ ds)) ss → IsJoined s (bridge_at m p s ∷ (cs ++ ds)) ss
    holed_case s p h b l r pw e d cs ds jl jr [] x = absurd x
    holed_case s p h b l r pw e d cs ds jl jr (Value v n ∷ ss) x =
        let y = subst (λ q. Sums k takes fits_v fits_g q (Value v n)) (part_at_root m pos_m t s p e) x.0 in let a = y.0 in let o = d.one_hole in absurd (omega arith)
    holed_case s p h b l r pw e d cs ds jl jr (Hole g n ∷ ss) x =
        let y = subst (λ q. Sums k takes fits_v fits_g q (Hole g n)) (part_at_root m pos_m t s p e) x.0 in
        let (us, vs, is, xl, xr) = parted cs ds ss x.1 in
        let (tl, pl, wl, fl, ul, al, bl) = jl us xl in
        let (tr, pr, wr, fr, ur, ar, br) = jr vs xr in
        let rest = d.rest in let inside = within_at t p pw in let z = ap size e in
        let es = subst (Each takes) e (each_sub takes t p pw each) in
        let below = subst (Each takes) d.here (each_sub takes s h d.within es) in
        let made = y.3 l r below.1 below.2 (omega arith) in
        let here : k.node (up k tl) g (up k tr) ≡ fold_tree k s =
        ap (λ q. k.node q g (up k tr)) ul ∙ (ap (λ q. k.node (fold_tree k l) g q) ur ∙ (sym made ∙ ap (fold_tree k) d.same)) in
        let kw = d.within in
        let there : sub_at t (p + h) ≡ Node b l r = sub_sub t p h pw (omega arith) ∙ (ap (λ x. sub_at x h) e ∙ d.here) in
        let node = is_node_at t (p + h) (omega arith) b l r there in
        let right_is : sub_at t (p + h + 1 + size (sub_at t (p + h + 1))) ≡ r = ap (λ n. sub_at t (p + h + 1 + n)) (ap size node.left) ∙ node.right in
        let pair : Option (V × V) = pair_below k t (further p (hole_of m s)) in
        let pair_is : Some (up k tl, up k tr) ≡ pair =
        ap (λ z. Some (z, up k tr)) ul ∙ ap (λ z. Some (fold_tree k l, z)) ur ∙ ap (λ z. Some (fold_tree k z, fold_tree k r)) (sym node.left)
        ∙ ap (λ z. Some (fold_tree k (sub_at t (p + h + 1)), fold_tree k z)) (sym right_is) ∙ sym (ap (λ o. pair_below k t (further p o)) d.place) in
        let own_n = y.1 in (
          Leads g n tl tr,
          ap (λ q. Hole g n ∷ (q ++ preorder tr)) pl ∙ (ap (λ q. Hole g n ∷ (us ++ q)) pr ∙ ap (λ q. Hole g n ∷ q) (sym is)),
          omega arith,
          (y.2, fl, fr),
          here,
          ap (λ q. q ∷ (ups k tl ++ ups k tr)) (here ∙ ap (fold_tree k) (sym e))
              ∙ (ap (λ q. fold_tree k (sub_at t p) ∷ (q ++ ups k tr)) al ∙ (ap (λ q. fold_tree k (sub_at t p) ∷ (map fold_at cs ++ q)) ar
              ∙ ap (λ q. fold_tree k (sub_at t p) ∷ q) (sym (map-append fold_at cs ds)))),
          ap (λ q. q ∷ (belows k tl ++ belows k tr)) pair_is ∙ (ap (λ q. pair ∷ (q ++ belows k tr)) bl ∙ (ap (λ q. pair ∷ (map pair_at cs ++ q)) br ∙ ap (λ q. pair ∷ q) (sym (map-append pair_at cs ds)))),
        )

    -- by induction on a bound of the size
    joined_to : (n : ℕ) (s : BTree (List ℤ)) (p : ℕ) → size s ≤ n → p < size t → sub_at t p ≡ s → (ss : List (Summary V G)) → SumsOf k takes fits_v fits_g t (bridges m p s) ss → IsJoined s (bridges m p s) ss
    joined_to zero s p q h e ss x = let a = size_pos s in absurd (omega arith)
    joined_to (suc n) s p q h e ss x =
        elim (cut m pos_m s) as (λ _. IsJoined s (bridges m p s) ss) [
          | inl w ↦
              let none : bridges m p s ≡ bridge_at m p s ∷ [] = ap (λ y. bridge_at m p s ∷ y) (w.none_below p) in
              subst (λ bs. IsJoined s bs ss) (sym none) (whole_case s p h e w ss (subst (λ bs. SumsOf k takes fits_v fits_g t bs ss) none x))
          | inr (i, b, l, r, d) ↦
              let two : bridges m p s ≡ bridge_at m p s ∷ (bridges m (1 + (p + i)) l ++ bridges m (1 + (p + i) + size l) r) = ap (λ y. bridge_at m p s ∷ y) (d.below p) in
              let z = ap size e in let kw = d.within in let rest = d.rest in let inside = within_at t p h in
              let there : sub_at t (p + i) ≡ Node b l r = sub_sub t p i h (omega arith) ∙ (ap (λ y. sub_at y i) e ∙ d.here) in
              let node = is_node_at t (p + i) (omega arith) b l r there in
              let wn = node.within in let pl = size_pos l in let pr = size_pos r in
              let al : sub_at t (1 + (p + i)) ≡ l = ap (sub_at t) (let f : 1 + (p + i) ≡ p + i + 1 = omega arith in f) ∙ node.left in
              let ar : sub_at t (1 + (p + i) + size l) ≡ r = ap (sub_at t) (let f : 1 + (p + i) + size l ≡ p + i + 1 + size l = omega arith in f) ∙ node.right in
              let less = within_at s i kw in let nz = ap size d.here in
              subst (λ bs. IsJoined s bs ss) (sym two)
              (holed_case s p i b l r h e d (bridges m (1 + (p + i)) l) (bridges m (1 + (p + i) + size l) r)
              (λ us y. joined_to n l (1 + (p + i)) (omega arith) (omega arith) al us y)
              (λ vs y. joined_to n r (1 + (p + i) + size l) (omega arith) (omega arith) ar vs y)
              ss (subst (λ bs. SumsOf k takes fits_v fits_g t bs ss) two x))
        ]

    -- all bridges of the tree
    pub all_joined : (ss : List (Summary V G)) → SumsOf k takes fits_v fits_g t (bridges m 0 t) ss → IsJoined t (bridges m 0 t) ss
    all_joined ss x = joined_to (size t) t 0 (omega arith) (size_pos t) (sub_at-top t) ss x

-- each of the tree's bridges is one by places
abbrev pub AllBridges : BTree (List ℤ) → List Bridge → Type 0
AllBridges t [] = Unit {0}
AllBridges t (b ∷ bs) = IsBridgeOf t b × AllBridges t bs

all_both : (t : BTree (List ℤ)) (bs cs : List Bridge) → AllBridges t bs → AllBridges t cs → AllBridges t (bs ++ cs)
all_both t [] cs x y = y
all_both t (b ∷ bs) cs x y = (x.0, all_both t bs cs x.1 y)

pub all_at : (t : BTree (List ℤ)) (bs : List Bridge) (i : ℕ) (d : Bridge) → i < length bs → AllBridges t bs → IsBridgeOf t (get_or bs i d)
all_at t [] i d h x = absurd (omega arith)
all_at t (b ∷ bs) zero d h x = x.0
all_at t (b ∷ bs) (suc i) d h x = all_at t bs i d (omega arith) x.1

module _ (m : ℕ) (pos_m : 0 < m) (t : BTree (List ℤ)) where
  below_are : (s : BTree (List ℤ)) (p : ℕ) → p + size s ≤ size t → ((i : ℕ) → i < size s → sub_at t (p + i) ≡ sub_at s i) → AllBridges t (bridges_below m p s)
  below_are (Leaf a) p w f = tt
  below_are (Node b l r) p w f =
      let fl : (i : ℕ) → i < size l → sub_at t (1 + p + i) ≡ sub_at l i = λ i h. ap (sub_at t) (let q : 1 + p + i ≡ p + suc i = omega arith in q) ∙ (f (suc i) (omega arith) ∙ sub_at-left b l r i h) in
      let fr : (i : ℕ) → i < size r → sub_at t (1 + p + size l + i) ≡ sub_at r i = λ i h. ap (sub_at t) (let q : 1 + p + size l + i ≡ p + suc (size l + i) = omega arith in q) ∙ (f (suc (size l + i)) (omega arith) ∙ sub_at-right b l r (size l + i) i refl) in
      let xl = below_are l (1 + p) (omega arith) fl in let xr = below_are r (1 + p + size l) (omega arith) fr in
      let pl = size_pos l in let pr = size_pos r in
      let al : sub_at t (1 + p) ≡ l = ap (sub_at t) (let q : 1 + p ≡ 1 + p + 0 = omega arith in q) ∙ (fl 0 pl ∙ sub_at-top l) in
      let ar : sub_at t (1 + p + size l) ≡ r = ap (sub_at t) (let q : 1 + p + size l ≡ 1 + p + size l + 0 = omega arith in q) ∙ (fr 0 pr ∙ sub_at-top r) in
      elim (true_or_false (is_critical m (Node b l r))) as (λ _. AllBridges t (bridges_below m p (Node b l r))) [
        | inl e ↦ subst (AllBridges t) (sym (below_at m b l r true p e))
            (all_both t (bridges m (1 + p) l) (bridges m (1 + p + size l) r) (is_bridge m pos_m t l (1 + p) (omega arith) al, xl) (is_bridge m pos_m t r (1 + p + size l) (omega arith) ar, xr))
        | inr e ↦ subst (AllBridges t) (sym (below_at m b l r false p e)) (all_both t (bridges_below m (1 + p) l) (bridges_below m (1 + p + size l) r) xl xr)
      ]

  pub are_bridges : AllBridges t (bridges m 0 t)
  are_bridges = (is_bridge m pos_m t t 0 (size_pos t) (sub_at-top t), below_are t 0 (omega arith) (λ i h. ap (sub_at t) (let q : 0 + i ≡ i = omega arith in q)))

module _ {V G : Type 0} (k : Upward (List ℤ) V G) (takes : (List ℤ) → Type 0) (fits_v : V → ℕ → Type 0) (fits_g : G → ℕ → Type 0) (t : BTree (List ℤ)) where
  pub sums_push : (bs : List Bridge) (ss : List (Summary V G)) (b : Bridge) (s : Summary V G) → SumsOf k takes fits_v fits_g t bs ss → Sums k takes fits_v fits_g (part_at t b) s
      → SumsOf k takes fits_v fits_g t (bs ++ b ∷ []) (ss ++ s ∷ [])
  sums_push [] [] b s x y = (y, tt)
  sums_push [] (u ∷ ss) b s x y = absurd x
  sums_push (c ∷ bs) [] b s x y = absurd x
  sums_push (c ∷ bs) (u ∷ ss) b s x y = (x.0, sums_push bs ss b s x.1 y)

  -- the summaries may be joined, and the first value is the fold of the tree
  pub may_join : (m : ℕ) → 0 < m → size t ≤ MAX_ELEMENTS → Each takes t → (ss : List (Summary V G)) → SumsOf k takes fits_v fits_g t (bridges m 0 t) ss → AreBridged fits_v fits_g ss
  may_join m p few e ss x = let (y, is, w, f, u, a, d) = all_joined k takes fits_v fits_g t m p few e ss x in (y, is, f, omega arith)

  pub first_is : (m : ℕ) → 0 < m → size t ≤ MAX_ELEMENTS → Each takes t → (ss : List (Summary V G)) (vs : List V) → SumsOf k takes fits_v fits_g t (bridges m 0 t) ss → AreUps k ss vs
      → (0 < length vs) × ((d : V) → get_or vs 0 d ≡ fold_tree k t)
  first_is m p few e ss vs x a =
      let (y, is, w, f, u, b, d) = all_joined k takes fits_v fits_g t m p few e ss x in
      let z : vs ≡ map (fold_at k takes fits_v fits_g t) (bridges m 0 t) = a y is ∙ b in
      let n = ap length z in
      (omega arith, (λ d. ap (λ q. get_or q 0 d) z ∙ ap (fold_tree k) (sub_at-top t)))

pub all_of : (m : ℕ) → 0 < m → (t : BTree (List ℤ)) (bs : List Bridge) (i : ℕ) (d : Bridge) → bs ≡ bridges m 0 t → i < length bs → IsBridgeOf t (get_or bs i d)
all_of m p t bs i d e h = all_at t bs i d h (subst (AllBridges t) (sym e) (are_bridges m p t))

module _ {V G : Type 0} (k : Upward (List ℤ) V G) (takes : (List ℤ) → Type 0) (fits_v : V → ℕ → Type 0) (fits_g : G → ℕ → Type 0) (t : BTree (List ℤ)) where
  -- the same, where the list of bridges and that of parts were passed on
  pub sums_like : (m : ℕ) (bs bs' : List Bridge) (ss ss' : List (Summary V G)) → bs ≡ bridges m 0 t → bs' ≡ bs → ss' ≡ ss → SumsOf k takes fits_v fits_g t bs' ss → SumsOf k takes fits_v fits_g t (bridges m 0 t) ss'
  sums_like m bs bs' ss ss' e f g x = subst (SumsOf k takes fits_v fits_g t (bridges m 0 t)) (sym g) (subst (λ y. SumsOf k takes fits_v fits_g t y ss) (f ∙ e) x)
