-- What stands on the stack of a contraction.
use Rattle.op_laws.specs.declared.TheConstants.{MAX_ELEMENTS}
use Rattle.std.proofs.Common.{◌≡◌, ℕ, zero, suc, ◌+◌, ◌-◌, ◌<◌, ◌≤◌, ◌^◌, ◌⊎◌, Bool, true, false, cond, nat_lt, ℤ, List, [], ◌∷◌, ◌++◌, reverse, refl, sym, ◌∙◌, ap, subst, arith, inl, inr, Option, Some, None}
use Rattle.std.proofs.lemmas.Bool.{cases_lt}
use Rattle.std.proofs.lemmas.List.{reverse-append, reverse-reverse, same_from_push}
use Rattle.std.proofs.Common.{length}
use Rattle.op_laws.specs.Trees.{BTree, size, sub_at, is_leaf, Each}
use Rattle.bin_tree.proofs.TreeLemmas.{within_at}
use Rattle.bin_tree.proofs.Places.{sub_sub}
use Rattle.m_bridges.specs.Parts.{Part, End, Stop, Join, own, holes, hung}
use Rattle.m_bridges.specs.declared.bridge.Bridge.{Bridge}
use Rattle.op_laws.specs.TreeFolds.{Upward, fold_tree}
use Rattle.bridge_contract.proofs.Laws.{Laws}
use Rattle.m_bridges.specs.Parts.{cut_at}
use Rattle.bridge_contract.specs.Summaries.{EachOwn, joined, summary, Sums}
use Rattle.bridge_contract.specs.Pending.{tree_head, head_at, pending, Fronts, own_all, holes_all}
use Rattle.m_bridges.specs.Places.{HoleFits, IsBridgeOf, part_at, back}
use Rattle.bridge_contract.specs.Stacked.{SumsEach, Joinable, HeadTakes, IsReady, Fronted}
use Rattle.bridge_contract.specs.declared.head.Head.{Head}
use Rattle.bridge_contract.specs.declared.head.Head.TheVariants.{AtEnd, AtStop, AtJoin}
use Rattle.bridge_contract.specs.declared.summary.Summary.{Summary}
use Rattle.bridge_contract.specs.declared.summary.Summary.TheVariants.{Value, Hole}
use Rattle.bridge_contract.proofs.Contracting.{join_sums}
use Rattle.bridge_contract.proofs.Stacks.{own_pos, own_whole, pending_left, pending_right, pending_end, fronts_at}
use Rattle.bridge_contract.proofs.CutLemmas.{cut_is, IsCutOf, holes_whole, each_sub, each_whole, each_cut}

abbrev pub EachAll : ((List ℤ) → Type 0) → List (Part (List ℤ)) → Type 0
EachAll P [] = Unit {0}
EachAll P (p ∷ ps) = EachOwn P p × EachAll P ps

pub record Fit (P : (List ℤ) → Type 0) (ps : List (Part (List ℤ))) : Type 0 where
  pub one : holes_all ps ≤ 1
  pub few : own_all ps ≤ MAX_ELEMENTS
  pub each : EachAll P ps

own_all_push : (ps : List (Part (List ℤ))) (q : Part (List ℤ)) → own_all (ps ++ q ∷ []) ≡ own_all ps + own q
own_all_push [] q = omega arith
own_all_push (p ∷ ps) q = let r = own_all_push ps q in omega arith

holes_all_push : (ps : List (Part (List ℤ))) (q : Part (List ℤ)) → holes_all (ps ++ q ∷ []) ≡ holes_all ps + holes q
holes_all_push [] q = omega arith
holes_all_push (p ∷ ps) q = let r = holes_all_push ps q in omega arith

each_all_push : (P : (List ℤ) → Type 0) (ps : List (Part (List ℤ))) (q : Part (List ℤ)) → EachAll P ps → EachOwn P q → EachAll P (ps ++ q ∷ [])
each_all_push P [] q e f = (f, tt)
each_all_push P (p ∷ ps) q e f = (e.0, each_all_push P ps q e.1 f)

pub pending_own : (p : Part (List ℤ)) (k : ℕ) → own_all (pending p k) ≤ own p
pending_own p zero = omega arith
pending_own (End a) (suc k) = omega arith
pending_own (Stop b) (suc k) = omega arith
pending_own (Join b p q) (suc k) =
    elim (cases_lt k (own p)) as (λ _. own_all (pending (Join b p q) (suc k)) ≤ own (Join b p q)) [
      | inl h ↦ let e = ap own_all (pending_left b p q k h) in let f = own_all_push (pending p k) q in let g = pending_own p k in omega arith
      | inr h ↦ let e = ap own_all (pending_right b p q k (k - own p) (omega arith)) in let g = pending_own q (k - own p) in omega arith
    ]

pub pending_holes : (p : Part (List ℤ)) (k : ℕ) → holes_all (pending p k) ≤ holes p
pending_holes p zero = omega arith
pending_holes (End a) (suc k) = omega arith
pending_holes (Stop b) (suc k) = omega arith
pending_holes (Join b p q) (suc k) =
    elim (cases_lt k (own p)) as (λ _. holes_all (pending (Join b p q) (suc k)) ≤ holes (Join b p q)) [
      | inl h ↦ let e = ap holes_all (pending_left b p q k h) in let f = holes_all_push (pending p k) q in let g = pending_holes p k in omega arith
      | inr h ↦ let e = ap holes_all (pending_right b p q k (k - own p) (omega arith)) in let g = pending_holes q (k - own p) in omega arith
    ]

pub pending_each : (P : (List ℤ) → Type 0) (p : Part (List ℤ)) (k : ℕ) → EachOwn P p → EachAll P (pending p k)
pending_each P p zero e = (e, tt)
pending_each P (End a) (suc k) e = tt
pending_each P (Stop b) (suc k) e = tt
pending_each P (Join b p q) (suc k) e =
    elim (cases_lt k (own p)) as (λ _. EachAll P (pending (Join b p q) (suc k))) [
      | inl h ↦ subst (EachAll P) (sym (pending_left b p q k h)) (each_all_push P (pending p k) q (pending_each P p k e.1) e.2)
      | inr h ↦ subst (EachAll P) (sym (pending_right b p q k (k - own p) (omega arith))) (pending_each P q (k - own p) e.2)
    ]

pub record IsFit (P : (List ℤ) → Type 0) (p : Part (List ℤ)) : Type 0 where
  pub one : holes p ≤ 1
  pub few : own p ≤ MAX_ELEMENTS
  pub each : EachOwn P p

pub pending_fit : (P : (List ℤ) → Type 0) (p : Part (List ℤ)) (k : ℕ) → IsFit P p → Fit P (pending p k)
pending_fit P p k f = let a = pending_holes p k in let b = pending_own p k in let c = f.one in let d = f.few in
    record { one = omega arith; few = omega arith; each = pending_each P p k f.each }

-- the element of the front node is taken
pub head_takes : (P : (List ℤ) → Type 0) (h : Head) (before after : List (Part (List ℤ))) → Fronts h before after → EachAll P before → HeadTakes P h
head_takes P (AtEnd a) before after f e = (subst (EachAll P) f e).0
head_takes P (AtStop b) before after f e = (subst (EachAll P) f e).0
head_takes P (AtJoin b) before after (p, q, rest, f, g) e = (subst (EachAll P) f e).0.0

module _ {V G : Type 0} (k : Upward (List ℤ) V G) (takes : (List ℤ) → Type 0) (fits_v : V → ℕ → Type 0) (fits_g : G → ℕ → Type 0) (laws : Laws k takes fits_v fits_g) where
  joinable : (p q : Part (List ℤ)) (l r : Summary V G) → holes p + holes q ≤ 1 → own p + 1 + own q ≤ MAX_ELEMENTS → Sums k takes fits_v fits_g p l → Sums k takes fits_v fits_g q r → Joinable fits_v fits_g l r
  joinable p q (Value l nl) (Value r nr) h o u v = (omega arith, u.2, v.2)
  joinable p q (Hole l nl) (Value r nr) h o u v = (omega arith, u.2, v.2)
  joinable p q (Value l nl) (Hole r nr) h o u v = (omega arith, u.2, v.2)
  joinable p q (Hole l nl) (Hole r nr) h o u v = let a = u.0 in let b = v.0 in absurd (omega arith)

  two_of : (st ss : List (Summary V G)) (p q : Part (List ℤ)) (rest : List (Part (List ℤ))) → reverse st ≡ ss → SumsEach k takes fits_v fits_g (p ∷ q ∷ rest) ss
      → (st' : List (Summary V G)) × (l : Summary V G) × (r : Summary V G) × (st ≡ (st' ++ r ∷ []) ++ l ∷ []) × Sums k takes fits_v fits_g p l × Sums k takes fits_v fits_g q r
  two_of st [] p q rest e x = absurd x
  two_of st (l ∷ []) p q rest e x = absurd x.1
  two_of st (l ∷ r ∷ ss) p q rest e x =
      (reverse ss, l, r, sym (reverse-reverse st) ∙ (ap reverse e ∙ (reverse_cons l (r ∷ ss) ∙ ap (λ u. u ++ l ∷ []) (reverse_cons r ss))), x.0, x.1.0)
    where
      reverse_cons : (x : Summary V G) (xs : List (Summary V G)) → reverse (x ∷ xs) ≡ reverse xs ++ x ∷ []
      reverse_cons x xs = reverse-append (x ∷ []) xs

  pub ready : (h : Head) (before after : List (Part (List ℤ))) (st : List (Summary V G)) → Fronts h before after → Fit takes before → SumsEach k takes fits_v fits_g after (reverse st) → IsReady k fits_v fits_g h st
  ready (AtEnd a) before after st f fit x = tt
  ready (AtStop b) before after st f fit x = tt
  ready (AtJoin b) before after st (p, q, rest, e, g) fit x =
      let one = fit.one in let few = fit.few in let a = ap holes_all e in let o = ap own_all e in
      let (st', l, r, is, u, v) = two_of st (reverse st) p q rest refl (subst (λ y. SumsEach k takes fits_v fits_g y (reverse st)) g x) in
      (laws.phi_fits b (head_takes takes (AtJoin b) before after (p, q, rest, e, g) fit.each), (st', l, r, is, joinable p q l r (omega arith) (omega arith) u v))

  push_is : (st : List (Summary V G)) (s : Summary V G) → reverse (st ++ s ∷ []) ≡ s ∷ reverse st
  push_is st s = reverse-append st (s ∷ [])

  pub put : (h : Head) (before after : List (Part (List ℤ))) (st st' : List (Summary V G)) (s : Summary V G) → Fronts h before after → Fit takes before → SumsEach k takes fits_v fits_g after (reverse st)
      → Fronted k h st st' s → SumsEach k takes fits_v fits_g before (reverse (st' ++ s ∷ []))
  put (AtEnd a) before after st st' s f fit x (same, is) =
      let ta = head_takes takes (AtEnd a) before after f fit.each in
      let here : Sums k takes fits_v fits_g (End a) (Value (k.leaf a) 1) = (refl, refl, laws.leaf_fits a ta, (λ x y. refl)) in
      subst (λ y. SumsEach k takes fits_v fits_g before y) (sym (push_is st' s))
      (subst (λ ps. SumsEach k takes fits_v fits_g ps (s ∷ reverse st')) (sym f)
      (subst (λ y. Sums k takes fits_v fits_g (End a) y) (sym is) here, subst (λ y. SumsEach k takes fits_v fits_g after (reverse y)) (sym same) x))
  put (AtStop b) before after st st' s f fit x (same, is) =
      let tb = head_takes takes (AtStop b) before after f fit.each in
      let here : Sums k takes fits_v fits_g (Stop b) (Hole (k.phi b) 1) = (refl, refl, laws.phi_fits b tb, (λ x y ex ey w. refl)) in
      subst (λ y. SumsEach k takes fits_v fits_g before y) (sym (push_is st' s))
      (subst (λ ps. SumsEach k takes fits_v fits_g ps (s ∷ reverse st')) (sym f)
      (subst (λ y. Sums k takes fits_v fits_g (Stop b) y) (sym is) here, subst (λ y. SumsEach k takes fits_v fits_g after (reverse y)) (sym same) x))
  put (AtJoin b) before after st st' s (p, q, rest, e, g) fit x (l, r, same, is) =
      let one = fit.one in let few = fit.few in let a = ap holes_all e in let o = ap own_all e in
      let tb = head_takes takes (AtJoin b) before after (p, q, rest, e, g) fit.each in
      let turned : reverse st ≡ l ∷ r ∷ reverse st' = ap reverse same ∙ (push_is (st' ++ r ∷ []) l ∙ ap (λ y. l ∷ y) (push_is st' r)) in
      let y = subst (λ u. SumsEach k takes fits_v fits_g (p ∷ q ∷ rest) u) turned (subst (λ u. SumsEach k takes fits_v fits_g u (reverse st)) g x) in
      subst (λ u. SumsEach k takes fits_v fits_g before u) (sym (push_is st' s))
      (subst (λ ps. SumsEach k takes fits_v fits_g ps (s ∷ reverse st')) (sym e)
      (subst (λ u. Sums k takes fits_v fits_g (Join b p q) u) (sym is) (join_sums k takes fits_v fits_g laws b p q l r tb (omega arith) (omega arith) y.0 y.1.0), y.1.1))

  pub last_of : (p : Part (List ℤ)) (n : ℕ) (st : List (Summary V G)) → n ≡ 0 → SumsEach k takes fits_v fits_g (pending p n) (reverse st) → (s : Summary V G) × (st ≡ s ∷ []) × Sums k takes fits_v fits_g p s
  last_of p n st z x = one_of st (reverse st) refl (subst (λ i. SumsEach k takes fits_v fits_g (pending p i) (reverse st)) z x)
    where
      one_of : (st ss : List (Summary V G)) → reverse st ≡ ss → SumsEach k takes fits_v fits_g (p ∷ []) ss → (s : Summary V G) × (st ≡ s ∷ []) × Sums k takes fits_v fits_g p s
      one_of st [] e x = absurd x
      one_of st (s ∷ []) e x = (s, sym (reverse-reverse st) ∙ ap reverse e, x.0)
      one_of st (s ∷ u ∷ ss) e x = absurd x.1

-- the part of a bridge
pub part_fit : (P : (List ℤ) → Type 0) (t : BTree (List ℤ)) (root n : ℕ) (o : Option ℕ) → root < size t → HoleFits t root n o → n ≤ MAX_ELEMENTS → Each P t
    → (own (cut_at (sub_at t root) (back root o)) ≡ n) × IsFit P (cut_at (sub_at t root) (back root o))
part_fit P t root n None w f few e =
    let s = sub_at t root in let o = own_whole s in let h = holes_whole s in
    (o ∙ sym f, record { one = omega arith; few = omega arith; each = each_whole P s (each_sub P t root w e) })
part_fit P t root n (Some h) w f few e =
    let s = sub_at t root in
    let there : root + (h - root) ≡ h = let a = f.0 in omega arith in
    let at_h : sub_at s (h - root) ≡ sub_at t h = sym (sub_sub t root (h - root) w f.1) ∙ ap (sub_at t) there in
    let (m, x) = cut_is s (h - root) f.1 (ap is_leaf at_h ∙ f.2) in
    let d = f.3 in let skip = x.skip in let same_size = ap size at_h in let sum = x.own_is in let hole = x.one in
    let is : own (cut_at s (Some (h - root))) ≡ n = omega arith in
    (is, record { one = omega arith; few = omega arith; each = each_cut P s (h - root) (each_sub P t root w e) })

pub bridge_fit : (P : (List ℤ) → Type 0) (t : BTree (List ℤ)) (b : Bridge) → IsBridgeOf t b → b.own ≤ MAX_ELEMENTS → Each P t → (own (part_at t b) ≡ b.own) × IsFit P (part_at t b)
bridge_fit P t b i few e = part_fit P t b.root b.own b.hole i.within i.hole few e

-- one own node further from the end
module _ (P : (List ℤ) → Type 0) (t : BTree (List ℤ)) (b : Bridge) (i : IsBridgeOf t b) (few : b.own ≤ MAX_ELEMENTS) (e : Each P t) where
  pub fronts_of : (n : ℕ) (h : Head) → 0 < n → n ≤ b.own → h ≡ head_at (part_at t b) (n - 1) → Fronts h (pending (part_at t b) (n - 1)) (pending (part_at t b) n)
  fronts_of n h p w is =
      let o = (bridge_fit P t b i few e).0 in
      let up : suc (n - 1) ≡ n = omega arith in
      subst (λ x. Fronts x (pending (part_at t b) (n - 1)) (pending (part_at t b) n)) (sym is)
      (subst (λ x. Fronts (head_at (part_at t b) (n - 1)) (pending (part_at t b) (n - 1)) (pending (part_at t b) x)) up (fronts_at (part_at t b) (n - 1) (omega arith)))

  pub fit_of : (n : ℕ) → Fit P (pending (part_at t b) n)
  fit_of n = pending_fit P (part_at t b) n (bridge_fit P t b i few e).1

  pub takes_of : (n : ℕ) (h : Head) → 0 < n → n ≤ b.own → h ≡ head_at (part_at t b) (n - 1) → HeadTakes P h
  takes_of n h p w is = head_takes P h _ _ (fronts_of n h p w is) (fit_of (n - 1)).each

  pub ends_of : (n : ℕ) → n ≡ b.own → pending (part_at t b) n ≡ []
  ends_of n z = ap (pending (part_at t b)) (z ∙ sym (bridge_fit P t b i few e).0) ∙ pending_end (part_at t b)

module _ {V G : Type 0} (k : Upward (List ℤ) V G) (takes : (List ℤ) → Type 0) (fits_v : V → ℕ → Type 0) (fits_g : G → ℕ → Type 0) (laws : Laws k takes fits_v fits_g) where
  pub begins : (ps : List (Part (List ℤ))) (st : List (Summary V G)) → ps ≡ [] → st ≡ [] → SumsEach k takes fits_v fits_g ps (reverse st)
  begins ps st e f =
      let none : SumsEach k takes fits_v fits_g [] [] = tt in
      subst (λ x. SumsEach k takes fits_v fits_g x (reverse st)) (sym e) (subst (λ y. SumsEach k takes fits_v fits_g [] (reverse y)) (sym f) none)

  pub some_left : (p : Part (List ℤ)) (n : ℕ) (st : List (Summary V G)) → n ≡ 0 → SumsEach k takes fits_v fits_g (pending p n) (reverse st) → 0 < length st
  some_left p n st z x = let (s, e, y) = last_of k takes fits_v fits_g laws p n st z x in let l = ap length e in omega arith

  pub last_is : (p : Part (List ℤ)) (n : ℕ) (st st' : List (Summary V G)) (s : Summary V G) → n ≡ 0 → SumsEach k takes fits_v fits_g (pending p n) (reverse st) → st ≡ st' ++ s ∷ [] → Sums k takes fits_v fits_g p s
  last_is p n st st' s z x e =
      let (u, f, y) = last_of k takes fits_v fits_g laws p n st z x in
      let same = same_from_push [] st' u s (sym f ∙ e) in subst (Sums k takes fits_v fits_g p) same.1 y
