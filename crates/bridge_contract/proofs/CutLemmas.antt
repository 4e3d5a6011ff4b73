-- The own nodes of a bridge by their places.
use Rattle.op_laws.specs.declared.width.Width.{Width}
use Rattle.op_laws.specs.Admits.{Admits}
use Rattle.op_laws.specs.Laws.{IsElementOf}
use Rattle.std.proofs.Common.{◌≡◌, ℕ, zero, suc, ◌+◌, ◌-◌, ◌<◌, ◌≤◌, ◌⊎◌, ◌==◌, Bool, true, false, cond, nat_lt, ℤ, List, [], ◌∷◌, ◌++◌, refl, sym, ◌∙◌, ap, subst, arith, inl, inr, Option, Some, None}
use Rattle.std.proofs.lemmas.Bool.{cases_lt, cases_order, lt-ltb, le-ltb}
use Rattle.std.proofs.Common.{eq-eqb}
use Rattle.std.proofs.lemmas.Bool.Decides.{nat_tests}
use Rattle.op_laws.specs.Trees.{BTree, Leaf, Node, size, sub_at, is_leaf, top, Each}
use Rattle.bin_tree.proofs.TreeLemmas.{if_lt, if_ge, sub_at-left, sub_at-right, size_pos, within_at, sub_at-top}
use Rattle.bin_tree.proofs.Places.{sub_sub}
use Rattle.m_bridges.specs.Parts.{Part, End, Stop, Join, own, holes, hung}
use Rattle.m_bridges.specs.declared.bridge.Bridge.{Bridge}
use Rattle.bridge_contract.specs.declared.head.Head.{Head}
use Rattle.bridge_contract.specs.declared.head.Head.TheVariants.{AtEnd, AtStop, AtJoin}
use Rattle.bridge_contract.specs.Pending.{tree_head, head_at, beside, beside_as}
use Rattle.m_bridges.specs.Parts.{cut_at}
use Rattle.bridge_contract.specs.Summaries.{EachOwn}
use Rattle.m_bridges.specs.Places.{HoleFits, IsBridgeOf, part_at, back}
use Rattle.bridge_contract.proofs.Stacks.{own_whole, head_whole, head_left, head_right}

pub record IsCutOf (c : Part (List ℤ)) (s : BTree (List ℤ)) (h n : ℕ) : Type 0 where
  pub skip : n + 1 ≡ size (sub_at s h)
  pub own_is : own c + n ≡ size s
  pub one : holes c ≡ 1
  pub before : (k : ℕ) → k < h → head_at c k ≡ tree_head (sub_at s k)
  pub here : head_at c h ≡ AtStop (top (sub_at s h))
  pub after : (k : ℕ) → h < k → k < own c → head_at c k ≡ tree_head (sub_at s (k + n))

pub holes_whole : (t : BTree (List ℤ)) → holes (cut_at t None) ≡ 0
holes_whole (Leaf a) = refl
holes_whole (Node b l r) = let p = holes_whole l in let q = holes_whole r in omega arith

module _ (b : (List ℤ)) (l r : BTree (List ℤ)) where
  cut_here : IsCutOf (Stop b) (Node b l r) 0 (size l + size r)
  cut_here = record {
    skip = omega arith;
    own_is = omega arith;
    one = refl;
    before = λ k h. absurd (omega arith);
    here = refl;
    after = λ k h g. absurd (omega arith);
  }

  left_before : (c : Part (List ℤ)) (h n k : ℕ) → h < own c → IsCutOf c l h n → h < size l → k < suc h → head_at (Join b c (cut_at r None)) k ≡ tree_head (sub_at (Node b l r) k)
  left_before c h n zero o x w g = refl
  left_before c h n (suc k) o x w g = head_left b c (cut_at r None) k (omega arith) ∙ (x.before k (omega arith) ∙ ap tree_head (sym (sub_at-left b l r k (omega arith))))

  left_after : (c : Part (List ℤ)) (h n k : ℕ) → IsCutOf c l h n → suc h < k → k < own (Join b c (cut_at r None)) → head_at (Join b c (cut_at r None)) k ≡ tree_head (sub_at (Node b l r) (k + n))
  left_after c h n zero x g o = absurd (omega arith)
  left_after c h n (suc k) x g o =
      let own_r = own_whole r in let sum = x.own_is in
      let back_is : suc k + n ≡ suc (k + n) = omega arith in
      elim (cases_lt k (own c)) as (λ _. head_at (Join b c (cut_at r None)) (suc k) ≡ tree_head (sub_at (Node b l r) (suc k + n))) [
        | inl p ↦ head_left b c (cut_at r None) k p ∙ (x.after k (omega arith) p ∙ ap tree_head (sym (ap (sub_at (Node b l r)) back_is ∙ sub_at-left b l r (k + n) (omega arith))))
        | inr q ↦
            head_right b c (cut_at r None) k (k - own c) (omega arith) ∙ (head_whole r (k - own c) (omega arith)
            ∙ ap tree_head (sym (ap (sub_at (Node b l r)) back_is ∙ sub_at-right b l r (k + n) (k - own c) (omega arith))))
      ]

  cut_left : (c : Part (List ℤ)) (h n : ℕ) → h < size l → IsCutOf c l h n → IsCutOf (Join b c (cut_at r None)) (Node b l r) (suc h) n
  cut_left c h n w x =
      let e = sub_at-left b l r h w in
      let sum = x.own_is in let skip = x.skip in let inside = within_at l h w in
      let o : h < own c = omega arith in
      let own_r = own_whole r in let hole_r = holes_whole r in let hole_c = x.one in
      record {
        skip = skip ∙ ap size (sym e);
        own_is = omega arith;
        one = omega arith;
        before = λ k g. left_before c h n k o x w g;
        here = head_left b c (cut_at r None) h o ∙ (x.here ∙ ap (λ s. AtStop (top s)) (sym e));
        after = λ k g u. left_after c h n k x g u;
      }

  right_before : (c : Part (List ℤ)) (j n k : ℕ) → IsCutOf c r j n → j < size r → k < suc (size l + j) → head_at (Join b (cut_at l None) c) k ≡ tree_head (sub_at (Node b l r) k)
  right_before c j n zero x w g = refl
  right_before c j n (suc k) x w g =
      let own_l = own_whole l in
      elim (cases_lt k (size l)) as (λ _. head_at (Join b (cut_at l None) c) (suc k) ≡ tree_head (sub_at (Node b l r) (suc k))) [
        | inl p ↦ head_left b (cut_at l None) c k (omega arith) ∙ (head_whole l k p ∙ ap tree_head (sym (sub_at-left b l r k p)))
        | inr q ↦ head_right b (cut_at l None) c k (k - size l) (omega arith) ∙ (x.before (k - size l) (omega arith) ∙ ap tree_head (sym (sub_at-right b l r k (k - size l) (omega arith))))
      ]

  right_after : (c : Part (List ℤ)) (j n k : ℕ) → IsCutOf c r j n → suc (size l + j) < k → k < own (Join b (cut_at l None) c) → head_at (Join b (cut_at l None) c) k ≡ tree_head (sub_at (Node b l r) (k + n))
  right_after c j n zero x g o = absurd (omega arith)
  right_after c j n (suc k) x g o =
      let own_l = own_whole l in
      let back_is : suc k + n ≡ suc (k + n) = omega arith in
      head_right b (cut_at l None) c k (k - size l) (omega arith) ∙ (x.after (k - size l) (omega arith) (omega arith)
      ∙ ap tree_head (sym (ap (sub_at (Node b l r)) back_is ∙ sub_at-right b l r (k + n) (k - size l + n) (omega arith))))

  cut_right : (c : Part (List ℤ)) (j n : ℕ) → j < size r → IsCutOf c r j n → IsCutOf (Join b (cut_at l None) c) (Node b l r) (suc (size l + j)) n
  cut_right c j n w x =
      let e = sub_at-right b l r (size l + j) j refl in
      let sum = x.own_is in let skip = x.skip in
      let own_l = own_whole l in let hole_l = holes_whole l in let hole_c = x.one in
      record {
        skip = skip ∙ ap size (sym e);
        own_is = omega arith;
        one = omega arith;
        before = λ k g. right_before c j n k x w g;
        here = head_right b (cut_at l None) c (size l + j) j (omega arith) ∙ (x.here ∙ ap (λ s. AtStop (top s)) (sym e));
        after = λ k g u. right_after c j n k x g u;
      }

pub cut_is : (s : BTree (List ℤ)) (h : ℕ) → h < size s → is_leaf (sub_at s h) ≡ false → (n : ℕ) × IsCutOf (cut_at s (Some h)) s h n
cut_is (Leaf a) h w e = absurd (cc)
cut_is (Node b l r) zero w e = (size l + size r, cut_here b l r)
cut_is (Node b l r) (suc h) w e =
    elim (cases_lt h (size l)) as (λ _. (n : ℕ) × IsCutOf (cut_at (Node b l r) (Some (suc h))) (Node b l r) (suc h) n) [
      | inl p ↦
          let (n, x) = cut_is l h p (sym (ap is_leaf (sub_at-left b l r h p)) ∙ e) in
          let is = if_lt h (size l) (Join b (cut_at l (Some h)) (cut_at r None)) (Join b (cut_at l None) (cut_at r (Some (h - size l)))) p in
          (n, subst (λ c. IsCutOf c (Node b l r) (suc h) n) (sym is) (cut_left b l r (cut_at l (Some h)) h n p x))
      | inr q ↦
          let j : h ≡ size l + (h - size l) = omega arith in
          let jw : h - size l < size r = omega arith in
          let (n, x) = cut_is r (h - size l) jw (sym (ap is_leaf (sub_at-right b l r h (h - size l) j)) ∙ e) in
          let is = if_ge h (size l) (Join b (cut_at l (Some h)) (cut_at r None)) (Join b (cut_at l None) (cut_at r (Some (h - size l)))) q in (
            n,
            subst (λ c. IsCutOf c (Node b l r) (suc h) n) (sym is)
                (subst (λ i. IsCutOf (Join b (cut_at l None) (cut_at r (Some (h - size l)))) (Node b l r) (suc i) n) (sym j) (cut_right b l r (cut_at r (Some (h - size l))) (h - size l) n jw x)),
          )
    ]

-- each element of a bridge is one of the tree
pub each_sub : (P : (List ℤ) → Type 0) (t : BTree (List ℤ)) (i : ℕ) → i < size t → Each P t → Each P (sub_at t i)
each_sub P (Leaf a) i h e = e
each_sub P (Node b l r) zero h e = e
each_sub P (Node b l r) (suc i) h e =
    elim (cases_lt i (size l)) as (λ _. Each P (sub_at (Node b l r) (suc i))) [
      | inl p ↦ subst (Each P) (sym (sub_at-left b l r i p)) (each_sub P l i p e.1)
      | inr q ↦ subst (Each P) (sym (sub_at-right b l r i (i - size l) (omega arith))) (each_sub P r (i - size l) (omega arith) e.2)
    ]

pub each_whole : (P : (List ℤ) → Type 0) (t : BTree (List ℤ)) → Each P t → EachOwn P (cut_at t None)
each_whole P (Leaf a) e = e
each_whole P (Node b l r) e = (e.0, each_whole P l e.1, each_whole P r e.2)

pub each_cut : (P : (List ℤ) → Type 0) (t : BTree (List ℤ)) (h : ℕ) → Each P t → EachOwn P (cut_at t (Some h))
each_cut P (Leaf a) h e = e
each_cut P (Node b l r) zero e = e.0
each_cut P (Node b l r) (suc h) e =
    elim (cases_lt h (size l)) as (λ _. EachOwn P (cut_at (Node b l r) (Some (suc h)))) [
      | inl p ↦ subst (EachOwn P) (sym (if_lt h (size l) (Join b (cut_at l (Some h)) (cut_at r None)) (Join b (cut_at l None) (cut_at r (Some (h - size l)))) p)) (e.0, each_cut P l h e.1, each_whole P r e.2)
      | inr q ↦ subst (EachOwn P) (sym (if_ge h (size l) (Join b (cut_at l (Some h)) (cut_at r None)) (Join b (cut_at l None) (cut_at r (Some (h - size l)))) q)) (e.0, each_whole P l e.1, each_cut P r (h - size l) e.2)
    ]

-- the own nodes of a bridge with a hole, by places of the whole tree
pub record OwnAt (t : BTree (List ℤ)) (root h k : ℕ) : Type 0 where
  pub hole_within : h < size t
  pub before : root + k ≤ h → root + k < size t
  pub after : h < root + k → root + k + (size (sub_at t h) - 1) < size t
  pub is : beside t (root + k) h ≡ head_at (cut_at (sub_at t root) (Some (h - root))) k

beside_lt : (t : BTree (List ℤ)) (at h : ℕ) → at < h → beside t at h ≡ tree_head (sub_at t at)
beside_lt t at h g = ap (λ x. beside_as t at h x (at == h)) (lt-ltb at h g)

beside_eq : (t : BTree (List ℤ)) (at h : ℕ) → at ≡ h → beside t at h ≡ AtStop (top (sub_at t at))
beside_eq t at h g = ap (λ x. beside_as t at h x (at == h)) (le-ltb at h (omega arith)) ∙ ap (λ x. beside_as t at h false x) (eq-eqb at h g)

beside_gt : (t : BTree (List ℤ)) (at h : ℕ) → h < at → beside t at h ≡ tree_head (sub_at t (at + (size (sub_at t h) - 1)))
beside_gt t at h g =
    let ne : (at == h) ≡ false = grind (arith, nat_tests) in
    ap (λ x. beside_as t at h x (at == h)) (le-ltb at h (omega arith)) ∙ ap (λ x. beside_as t at h false x) ne

pub own_at : (t : BTree (List ℤ)) (root n h k : ℕ) → root < size t → HoleFits t root n (Some h) → k < n → OwnAt t root h k
own_at t root n h k w f g =
    let s = sub_at t root in
    let there : root + (h - root) ≡ h = let a = f.0 in omega arith in
    let at_h : sub_at s (h - root) ≡ sub_at t h = sym (sub_sub t root (h - root) w f.1) ∙ ap (sub_at t) there in
    let (m, x) = cut_is s (h - root) f.1 (ap is_leaf at_h ∙ f.2) in
    let a = f.0 in let b = f.1 in let d = f.3 in
    let inside = within_at t root w in let skip = x.skip in let same_size = ap size at_h in let sum = x.own_is in
    let m_is : m ≡ size (sub_at t h) - 1 = omega arith in
    let p = size_pos (sub_at t h) in
    record {
      hole_within = omega arith;
      before = λ q. omega arith;
      after = λ q. omega arith;
      is = elim (cases_order (root + k) h) as (λ _. beside t (root + k) h ≡ head_at (cut_at s (Some (h - root))) k) [
        | inl e ↦
            let e' : k ≡ h - root = omega arith in
            beside_eq t (root + k) h e ∙ (ap (λ i. AtStop (top (sub_at t i))) e ∙ (ap (λ u. AtStop (top u)) (sym at_h) ∙ (sym x.here ∙ ap (head_at (cut_at s (Some (h - root)))) (sym e'))))
        | inr o ↦ elim o as (λ _. beside t (root + k) h ≡ head_at (cut_at s (Some (h - root))) k) [
          | inl q ↦ beside_lt t (root + k) h q ∙ (ap tree_head (sub_sub t root k w (omega arith)) ∙ sym (x.before k (omega arith)))
          | inr q ↦
              let far : root + k + (size (sub_at t h) - 1) ≡ root + (k + m) = omega arith in
              beside_gt t (root + k) h q ∙ (ap (λ i. tree_head (sub_at t i)) far ∙ (ap tree_head (sub_sub t root (k + m) w (omega arith)) ∙ sym (x.after k (omega arith) (omega arith))))
        ]
      ];
    }

pub in_bridge : (t : BTree (List ℤ)) (root n k : ℕ) (o : Option ℕ) → root < size t → HoleFits t root n o → k < n → root + k < size t
in_bridge t root n k None w f g = let inside = within_at t root w in omega arith
in_bridge t root n k (Some h) w f g = let inside = within_at t root w in let a = f.3 in omega arith

pub own_none : (t : BTree (List ℤ)) (b : Bridge) (k : ℕ) → IsBridgeOf t b → b.hole ≡ None → k < b.own → tree_head (sub_at t (b.root + k)) ≡ head_at (part_at t b) k
own_none t b k i e g =
    let f = subst (HoleFits t b.root b.own) e i.hole in
    ap tree_head (sub_sub t b.root k i.within (omega arith)) ∙ (sym (head_whole (sub_at t b.root) k (omega arith))
    ∙ ap (λ o. head_at (cut_at (sub_at t b.root) (back b.root o)) k) (sym e))

pub own_some : (t : BTree (List ℤ)) (b : Bridge) (k h : ℕ) → IsBridgeOf t b → b.hole ≡ Some h → k < b.own → OwnAt t b.root h k
own_some t b k h i e g = own_at t b.root b.own h k i.within (subst (HoleFits t b.root b.own) e i.hole) g

pub own_some_is : (t : BTree (List ℤ)) (b : Bridge) (k h : ℕ) → IsBridgeOf t b → b.hole ≡ Some h → k < b.own → beside t (b.root + k) h ≡ head_at (part_at t b) k
own_some_is t b k h i e g = (own_some t b k h i e g).is ∙ ap (λ o. head_at (cut_at (sub_at t b.root) (back b.root o)) k) (sym e)

-- elements that a type admits are ones that an operator of the type takes
pub elements_of : (takes : List Width → Type 0) (ty : List Width) → takes ty → (t : BTree (List ℤ)) → Each (Admits ty) t → Each (IsElementOf takes) t
elements_of takes ty taken (Leaf a) e = (ty, taken, e)
elements_of takes ty taken (Node b l r) e = ((ty, taken, e.0), elements_of takes ty taken l e.1, elements_of takes ty taken r e.2)
