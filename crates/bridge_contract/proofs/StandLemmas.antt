-- The values at own nodes, one node further from the end.
use Rattle.std.proofs.Common.{◌≡◌, false, ℕ, zero, suc, ◌+◌, ◌-◌, ◌*◌, ◌<◌, ◌≤◌, ℤ, List, [], ◌∷◌, ◌++◌, reverse, length, map, Option, Some, None, refl, sym, ◌∙◌, ap, subst, arith, append_assoc}
use Rattle.std.proofs.Math.Nat.{mul-le-mul_right}
use Rattle.std.proofs.lemmas.List.{reverse-append, reverse-reverse, map-append, append-nil}
use Rattle.op_laws.specs.declared.TheConstants.{MAX_ELEMENTS}
use Rattle.op_laws.specs.Trees.{BTree, Leaf, Node, size, sub_at, is_leaf, Each}
use Rattle.op_laws.specs.TreeFolds.{Upward, fold_tree}
use Rattle.bin_tree.proofs.TreeLemmas.{size_pos, within_at, IsNodeAt, node_at}
use Rattle.bin_tree.proofs.Places.{sub_sub}
use Rattle.m_bridges.specs.Parts.{Part, End, Stop, Join, own, holes, hung, cut_at}
use Rattle.m_bridges.specs.Places.{HoleFits, IsBridgeOf, part_at, back}
use Rattle.m_bridges.specs.declared.bridge.Bridge.{Bridge}
use Rattle.bridge_contract.specs.Summaries.{EachOwn}
use Rattle.bridge_contract.specs.Pending.{pending, Fronts, own_all, holes_all}
use Rattle.bridge_contract.specs.Stacked.{HeadTakes}
use Rattle.bridge_contract.specs.OwnNodes.{own_subs, AreBelow, left_below, right_below}
use Rattle.bridge_contract.specs.Passing.{AreWeighed, over, CanMeet, CanStand, Stands}
use Rattle.bridge_contract.specs.declared.head.Head.{Head}
use Rattle.bridge_contract.specs.declared.head.Head.TheVariants.{AtEnd, AtStop, AtJoin}
use Rattle.bridge_contract.proofs.Laws.{Laws}
use Rattle.bridge_contract.proofs.Contracting.{fold_fits}
use Rattle.bridge_contract.proofs.StackLemmas.{Fit, EachAll, head_takes, pending_own, pending_holes, pending_each, bridge_fit, IsFit}
use Rattle.bridge_contract.proofs.CutLemmas.{each_sub, holes_whole}

pub hung_size : {A : Type 0} (p : Part A) (x y : BTree A) (n : ℕ) → n ≡ size x + size y → size (hung p x y) ≡ own p + holes p * n
hung_size (End a) x y n e = omega arith
hung_size (Stop b) x y n e = omega arith
hung_size (Join b p q) x y n e = let u = hung_size p x y n e in let v = hung_size q x y n e in omega arith

pub hung_each : {A : Type 0} (P : A → Type 0) (p : Part A) (x y : BTree A) → EachOwn P p → Each P x → Each P y → Each P (hung p x y)
hung_each P (End a) x y e ex ey = e
hung_each P (Stop b) x y e ex ey = (e, ex, ey)
hung_each P (Join b p q) x y e ex ey = (e.0, hung_each P p x y e.1 ex ey, hung_each P q x y e.2 ex ey)

-- ---- the two subtrees of the hole

-- the two trees that hang below the hole, and their sizes together
pub record IsHanging (P : List ℤ → Type 0) (t : BTree (List ℤ)) (b : Bridge) (n : ℕ) : Type 0 where
  pub size_is : n ≡ size (left_below t b.hole) + size (right_below t b.hole)
  pub left : Each P (left_below t b.hole)
  pub right : Each P (right_below t b.hole)
  pub small : b.own + holes (part_at t b) * n ≤ MAX_ELEMENTS
  pub none : b.hole ≡ None → holes (part_at t b) ≡ 0

-- the children of a hole
pub record ChildrenIn (t : BTree (List ℤ)) (h : ℕ) : Type 0 where
  pub left : h + 1 < size t
  pub right : h + 1 + size (sub_at t (h + 1)) < size t
  pub whole : size (sub_at t h) ≡ 1 + size (sub_at t (h + 1)) + size (sub_at t (h + 1 + size (sub_at t (h + 1))))

pub children_in : (t : BTree (List ℤ)) (h : ℕ) → h < size t → is_leaf (sub_at t h) ≡ false → ChildrenIn t h
children_in t h w e =
    let (b, l, r, n) = node_at t h w e in
    let sl = ap size n.left in let sn = ap size n.is in let within = n.within in let pl = size_pos l in let pr = size_pos r in
    let place : h + 1 + size (sub_at t (h + 1)) ≡ h + 1 + size l = omega arith in
    let sr = ap size (ap (sub_at t) place ∙ n.right) in
    record { left = omega arith; right = omega arith; whole = omega arith }

pub hole_children : (t : BTree (List ℤ)) (b : Bridge) (h : ℕ) → IsBridgeOf t b → b.hole ≡ Some h → ChildrenIn t h
hole_children t b h i e =
    let f = subst (HoleFits t b.root b.own) e i.hole in
    let w = within_at t b.root i.within in let a = f.0 in let d = f.1 in children_in t h (omega arith) f.2

hanging_by : (P : List ℤ → Type 0) (t : BTree (List ℤ)) (b : Bridge) (o : Option ℕ) → b.hole ≡ o → IsBridgeOf t b → size t ≤ MAX_ELEMENTS → Each P t → HoleFits t b.root b.own o → holes (part_at t b) ≤ 1 → IsHanging P t b (size (left_below t o) + size (right_below t o))
hanging_by P t b None e i few each f one =
    let none : holes (part_at t b) ≡ 0 = ap (λ o. holes (cut_at (sub_at t b.root) (back b.root o))) e ∙ holes_whole (sub_at t b.root) in
    let w = within_at t b.root i.within in
    let nothing = ap (λ (x : ℕ). x * (size t + size t)) none in
    record {
      size_is = ap (λ o. size (left_below t o) + size (right_below t o)) (sym e);
      left = subst (λ o. Each P (left_below t o)) (sym e) each;
      right = subst (λ o. Each P (right_below t o)) (sym e) each;
      small = omega arith;
      none = λ q. none;
    }
hanging_by P t b (Some h) e i few each f one =
    let w = within_at t b.root i.within in let a = f.0 in let d = f.1 in let sum = f.3 in
    let c = children_in t h (omega arith) f.2 in
    let n = size (sub_at t (h + 1)) + size (sub_at t (h + 1 + size (sub_at t (h + 1)))) in
    let whole = c.whole in
    let at_most : holes (part_at t b) * n ≤ 1 * n = mul-le-mul_right n one in
    record {
      size_is = ap (λ o. size (left_below t o) + size (right_below t o)) (sym e);
      left = subst (λ o. Each P (left_below t o)) (sym e) (each_sub P t (h + 1) c.left each);
      right = subst (λ o. Each P (right_below t o)) (sym e) (each_sub P t (h + 1 + size (sub_at t (h + 1))) c.right each);
      small = omega arith;
      none = λ q. absurd (cc);
    }

pub hanging : (P : List ℤ → Type 0) (t : BTree (List ℤ)) (b : Bridge) → IsBridgeOf t b → size t ≤ MAX_ELEMENTS → Each P t → (n : ℕ) × IsHanging P t b n
hanging P t b i few each =
    let w = within_at t b.root i.within in
    let own_few : b.own ≤ MAX_ELEMENTS = own_by b.hole i.hole in
    let fit = (bridge_fit P t b i own_few each).1 in
    (size (left_below t b.hole) + size (right_below t b.hole), hanging_by P t b b.hole refl i few each i.hole fit.one)
  where
    own_by : (o : Option ℕ) → HoleFits t b.root b.own o → b.own ≤ MAX_ELEMENTS
    own_by None f = let u = within_at t b.root i.within in omega arith
    own_by (Some h) f = let u = within_at t b.root i.within in let e = f.3 in omega arith

module _ {V G : Type 0} (k : Upward (List ℤ) V G) (takes : List ℤ → Type 0) (fits : V → ℕ → Type 0) (fits_hole : G → ℕ → Type 0) (laws : Laws k takes fits fits_hole) (finished : V → List ℤ) (x y : BTree (List ℤ)) where
  -- the value of a part with its weight
  abbrev pub entry : Part (List ℤ) → V × ℕ
  entry p = (fold_tree k (hung p x y), size (hung p x y))

  abbrev pub entries : List (Part (List ℤ)) → List (V × ℕ)
  entries [] = []
  entries (p ∷ ps) = entry p ∷ entries ps

  abbrev pub result_of : BTree (List ℤ) → List ℤ
  result_of s = finished (fold_tree k s)

  abbrev pub rest_ups : List (Part (List ℤ)) → List (List ℤ)
  rest_ups [] = []
  rest_ups (p ∷ ps) = map result_of (own_subs p x y) ++ rest_ups ps

  -- what is on the stack, and what is done, in reverse
  pub record IsStanding (ps : List (Part (List ℤ))) (st : List (V × ℕ)) (out : List (List ℤ)) : Type 0 where
    pub values : reverse st ≡ entries ps
    pub done : reverse out ≡ rest_ups ps

  push_is : (st : List (V × ℕ)) (s : V × ℕ) → reverse (st ++ s ∷ []) ≡ s ∷ reverse st
  push_is st s = reverse-append st (s ∷ [])

  two_of : (st : List (V × ℕ)) (a b : V × ℕ) (ws : List (V × ℕ)) → reverse st ≡ a ∷ b ∷ ws → st ≡ (reverse ws ++ b ∷ []) ++ a ∷ []
  two_of st a b ws e = sym (reverse-reverse st) ∙ ap reverse e ∙ reverse-append (a ∷ []) (b ∷ ws) ∙ ap (λ z. z ++ a ∷ []) (reverse-append (b ∷ []) ws)

  pair_same : (v v' : V) (m m' : ℕ) → v ≡ v' → m ≡ m' → (let p : V × ℕ = (v, m) in p) ≡ (let q : V × ℕ = (v', m') in q)
  pair_same v v' m m' e f = cc

  -- the weights of parts that stand side by side
  pub record AreLight (ps : List (Part (List ℤ))) (n : ℕ) : Type 0 where
    pub size_is : n ≡ size x + size y
    pub few : own_all ps + holes_all ps * n ≤ MAX_ELEMENTS
    pub left : Each takes x
    pub right : Each takes y
    pub each : EachAll takes ps

  fits_hung : (p : Part (List ℤ)) (n : ℕ) → n ≡ size x + size y → own p + holes p * n ≤ MAX_ELEMENTS → EachOwn takes p → Each takes x → Each takes y → fits (fold_tree k (hung p x y)) (size (hung p x y))
  fits_hung p n e few each ex ey = let s = hung_size p x y n e in fold_fits k takes fits fits_hole laws (hung p x y) (hung_each takes p x y each ex ey) (omega arith)

  -- the hole's values are those of x and y, where a part has a hole
  abbrev pub Weighed : Option ((V × ℕ) × (V × ℕ)) → Type 0
  Weighed w = w ≡ Some ((fold_tree k x, size x), (fold_tree k y, size y))

  pub can_stand : (h : Head) (before after : List (Part (List ℤ))) (w : Option ((V × ℕ) × (V × ℕ))) (st : List (V × ℕ)) (out : List (List ℤ)) (n : ℕ) → Fronts h before after → HeadTakes takes h → AreLight before n
      → (0 < holes_all before → Weighed w) → IsStanding after st out → CanStand k fits fits_hole h w st
  can_stand (AtEnd a) before after w st out n f t light weighed s = tt
  can_stand (AtStop b) before after w st out n f t light weighed s =
      let hs = ap holes_all f in let os = ap own_all f in
      let some : 1 * n ≤ holes_all before * n = mul-le-mul_right n (omega arith) in
      let few = light.few in let is = light.size_is in (
        (fold_tree k x, size x),
        (fold_tree k y, size y),
        weighed (omega arith),
        (omega arith, fold_fits k takes fits fits_hole laws x light.left (omega arith), laws.phi_fits b t, fold_fits k takes fits fits_hole laws y light.right (omega arith)),
      )
  can_stand (AtJoin b) before after w st out n (p, q, rest, f, g) t light weighed s =
      let hs = ap holes_all f in let os = ap own_all f in let few = light.few in let is = light.size_is in
      let sp = hung_size p x y n is in let sq = hung_size q x y n is in
      let each = subst (EachAll takes) f light.each in
      let stack = two_of st (entry p) (entry q) (entries rest) (s.values ∙ ap entries g) in
      let spread : holes_all before * n ≡ (holes p + holes q + holes_all rest) * n = ap (λ (z : ℕ). z * n) hs in (
        reverse (entries rest),
        entry p,
        entry q,
        stack,
        (omega arith, fits_hung p n is (omega arith) each.0.1 light.left light.right, laws.phi_fits b t, fits_hung q n is (omega arith) each.0.2 light.left light.right),
      )

  same_two : (before after : List (V × ℕ)) (a b : V × ℕ) (ws : List (V × ℕ)) → before ≡ (after ++ b ∷ []) ++ a ∷ [] → (c d : V × ℕ) → reverse before ≡ c ∷ d ∷ ws → (a ≡ c) × (b ≡ d) × (reverse after ≡ ws)
  same_two before after a b ws e c d f =
      let turned : a ∷ b ∷ reverse after ≡ c ∷ d ∷ ws = sym (ap reverse e ∙ push_is (after ++ b ∷ []) a ∙ ap (λ z. a ∷ z) (push_is after b)) ∙ f in
      (cc, cc, cc)

  -- one node further
  pub stands : (h : Head) (before after : List (Part (List ℤ))) (w : Option ((V × ℕ) × (V × ℕ))) (st st' : List (V × ℕ)) (out out' : List (List ℤ)) (r : V × ℕ) → Fronts h before after
      → (0 < holes_all before → Weighed w) → Stands k h w st st' r → out' ≡ out ++ finished r.0 ∷ [] → IsStanding after st out → IsStanding before (st' ++ r ∷ []) out'
  stands (AtEnd a) before after w st st' out out' r f weighed (e, is) o s = record {
    values = push_is st' r ∙ ap (λ (z : V × ℕ). z ∷ reverse st') is ∙ ap (λ z. entry (End a) ∷ reverse z) e ∙ ap (λ z. entry (End a) ∷ z) s.values ∙ ap entries (sym f);
    done = ap reverse o ∙ reverse-append out (finished r.0 ∷ []) ∙ ap (λ (z : V × ℕ). finished z.0 ∷ reverse out) is ∙ ap (λ z. finished (k.leaf a) ∷ z) s.done ∙ ap rest_ups (sym f);
  }
  stands (AtStop b) before after w st st' out out' r f weighed (e, (l, m, wl, is)) o s =
      let hs = ap holes_all f in
      let known = weighed (omega arith) in
      let both : (let u : (V × ℕ) × (V × ℕ) = (l, m) in u) ≡ ((fold_tree k x, size x), (fold_tree k y, size y)) = cc in
      let el : l ≡ (fold_tree k x, size x) = ap (λ (z : (V × ℕ) × (V × ℕ)). z.0) both in let em : m ≡ (fold_tree k y, size y) = ap (λ (z : (V × ℕ) × (V × ℕ)). z.1) both in
      let value : r.0 ≡ fold_tree k (hung (Stop b) x y) = ap (λ (z : V × ℕ). z.0) is ∙ ap (λ (z : V × ℕ). k.node z.0 (k.phi b) m.0) el ∙ ap (λ (z : V × ℕ). k.node (fold_tree k x) (k.phi b) z.0) em in
      let weights : size x + 1 + size y ≡ size (hung (Stop b) x y) = omega arith in
      let weight : r.1 ≡ size (hung (Stop b) x y) = ap (λ (z : V × ℕ). z.1) is ∙ ap (λ (z : V × ℕ). z.1 + 1 + m.1) el ∙ ap (λ (z : V × ℕ). size x + 1 + z.1) em ∙ weights in
      let entry_is : r ≡ entry (Stop b) = pair_same r.0 _ r.1 _ value weight in
      record {
        values = push_is st' r ∙ ap (λ z. z ∷ reverse st') entry_is ∙ ap (λ z. entry (Stop b) ∷ reverse z) e ∙ ap (λ z. entry (Stop b) ∷ z) s.values ∙ ap entries (sym f);
        done = ap reverse o ∙ reverse-append out (finished r.0 ∷ []) ∙ ap (λ z. finished z ∷ reverse out) value ∙ ap (λ z. finished (fold_tree k (hung (Stop b) x y)) ∷ z) s.done ∙ ap rest_ups (sym f);
      }
  stands (AtJoin b) before after w st st' out out' r (p, q, rest, f, g) weighed (l, m, e, is) o s =
      let same = same_two st st' l m (entries rest) e (entry p) (entry q) (s.values ∙ ap entries g) in
      let el = same.0 in let em = same.1 in
      let value : r.0 ≡ fold_tree k (hung (Join b p q) x y) = ap (λ (z : V × ℕ). z.0) is ∙ ap (λ (z : V × ℕ). k.node z.0 (k.phi b) m.0) el ∙ ap (λ (z : V × ℕ). k.node (fold_tree k (hung p x y)) (k.phi b) z.0) em in
      let weights : size (hung p x y) + 1 + size (hung q x y) ≡ size (hung (Join b p q) x y) = omega arith in
      let weight : r.1 ≡ size (hung (Join b p q) x y) = ap (λ (z : V × ℕ). z.1) is ∙ ap (λ (z : V × ℕ). z.1 + 1 + m.1) el ∙ ap (λ (z : V × ℕ). size (hung p x y) + 1 + z.1) em ∙ weights in
      let entry_is : r ≡ entry (Join b p q) = pair_same r.0 _ r.1 _ value weight in
      let up = map result_of (own_subs p x y) in let uq = map result_of (own_subs q x y) in
      let all_is : rest_ups (Join b p q ∷ rest) ≡ finished (fold_tree k (hung (Join b p q) x y)) ∷ (up ++ (uq ++ rest_ups rest)) =
      ap (λ z. finished (fold_tree k (hung (Join b p q) x y)) ∷ (z ++ rest_ups rest)) (map-append result_of (own_subs p x y) (own_subs q x y))
      ∙ ap (λ z. finished (fold_tree k (hung (Join b p q) x y)) ∷ z) (append_assoc up uq (rest_ups rest)) in
      record {
        values = push_is st' r ∙ ap (λ z. z ∷ reverse st') entry_is ∙ ap (λ z. entry (Join b p q) ∷ z) same.2 ∙ ap entries (sym f);
        done = ap reverse o ∙ reverse-append out (finished r.0 ∷ []) ∙ ap (λ z. finished z ∷ reverse out) value
            ∙ ap (λ z. finished (fold_tree k (hung (Join b p q) x y)) ∷ z) (s.done ∙ ap rest_ups g) ∙ sym all_is ∙ ap rest_ups (sym f);
      }

  front_some : (h : Head) (before after : List (Part (List ℤ))) → Fronts h before after → (p : Part (List ℤ)) × (ps : List (Part (List ℤ))) × (before ≡ p ∷ ps)
  front_some (AtEnd a) before after f = (End a, after, f)
  front_some (AtStop b) before after f = (Stop b, after, f)
  front_some (AtJoin b) before after (p, q, rest, e, g) = (Join b p q, rest, e)

  first_fits : (before ps : List (Part (List ℤ))) (p : Part (List ℤ)) (st : List (V × ℕ)) (r : V × ℕ) (n : ℕ) → before ≡ p ∷ ps → AreLight before n → reverse (st ++ r ∷ []) ≡ entries before → fits r.0 r.1 × (r.1 ≤ MAX_ELEMENTS)
  first_fits before ps p st r n f light values =
      let both : r ∷ reverse st ≡ entry p ∷ entries ps = sym (push_is st r) ∙ values ∙ ap entries f in
      let is : r ≡ entry p = cc in
      let each = subst (EachAll takes) f light.each in
      let os = ap own_all f in let few = light.few in let size_is = light.size_is in
      let spread : holes_all before * n ≡ (holes p + holes_all ps) * n = ap (λ (z : ℕ). z * n) (ap holes_all f) in
      let weight = ap (λ (z : V × ℕ). z.1) is in let hung_is = hung_size p x y n size_is in
      (subst (λ (z : V × ℕ). fits z.0 z.1) (sym is) (fits_hung p n size_is (omega arith) each.0 light.left light.right), omega arith)

  -- the value fits its weight
  pub stand_fits : (h : Head) (before after : List (Part (List ℤ))) (w : Option ((V × ℕ) × (V × ℕ))) (st st' : List (V × ℕ)) (out : List (List ℤ)) (r : V × ℕ) (n : ℕ) → Fronts h before after → AreLight before n
      → (0 < holes_all before → Weighed w) → Stands k h w st st' r → IsStanding after st out → fits r.0 r.1 × (r.1 ≤ MAX_ELEMENTS)
  stand_fits h before after w st st' out r n f light weighed s standing =
      let (p, ps, e) = front_some h before after f in
      let next = stands h before after w st st' out (out ++ finished r.0 ∷ []) r f weighed s refl standing in
      first_fits before ps p st' r n e light next.values

  pub stands_none : (ps : List (Part (List ℤ))) (st : List (V × ℕ)) (out : List (List ℤ)) → ps ≡ [] → st ≡ [] → out ≡ [] → IsStanding ps st out
  stands_none ps st out e f g = record { values = ap reverse f ∙ ap entries (sym e); done = ap reverse g ∙ ap rest_ups (sym e) }

  pub stands_all : (p : Part (List ℤ)) (j : ℕ) (st : List (V × ℕ)) (out out' : List (List ℤ)) → j ≡ 0 → IsStanding (pending p j) st out → out' ≡ reverse out → out' ≡ map result_of (own_subs p x y)
  stands_all p j st out out' z s e = e ∙ s.done ∙ ap (λ i. rest_ups (pending p i)) z ∙ append-nil (map result_of (own_subs p x y))

-- where some part still has the hole, the values below it are there
pub weighed_in : {V G : Type 0} (k : Upward (List ℤ) V G) (P : List ℤ → Type 0) (t : BTree (List ℤ)) (b : Bridge) (n j : ℕ) (w : Option ((V × ℕ) × (V × ℕ))) → IsHanging P t b n → AreWeighed k t b.hole w → 0 < holes_all (pending (part_at t b) j)
    → w ≡ Some ((fold_tree k (left_below t b.hole), size (left_below t b.hole)), (fold_tree k (right_below t b.hole), size (right_below t b.hole)))
weighed_in {V} {G} k P t b n j w hang are some = by b.hole refl are
  where
    by : (o : Option ℕ) → b.hole ≡ o → AreWeighed k t o w → w ≡ Some ((fold_tree k (left_below t o), size (left_below t o)), (fold_tree k (right_below t o), size (right_below t o)))
    by None e u = let none = hang.none e in let few = pending_holes (part_at t b) j in absurd (omega arith)
    by (Some h) e u = u

-- the own nodes that are left are light
pub light_in : (k : ℕ) (P : List ℤ → Type 0) (t : BTree (List ℤ)) (b : Bridge) (n : ℕ) → IsBridgeOf t b → b.own ≤ MAX_ELEMENTS → Each P t → IsHanging P t b n → (x y : BTree (List ℤ)) → x ≡ left_below t b.hole → y ≡ right_below t b.hole
    → (n ≡ size x + size y) × (own_all (pending (part_at t b) k) + holes_all (pending (part_at t b) k) * n ≤ MAX_ELEMENTS)
light_in k P t b n i few each hang x y ex ey =
    let own_is = (bridge_fit P t b i few each).0 in
    let a = pending_own (part_at t b) k in let c = pending_holes (part_at t b) k in
    let times : holes_all (pending (part_at t b) k) * n ≤ holes (part_at t b) * n = mul-le-mul_right n c in
    let sx = ap size ex in let sy = ap size ey in let is = hang.size_is in let small = hang.small in
    (omega arith, omega arith)
