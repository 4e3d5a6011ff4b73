-- The values at roots, one part further from the end.
use Rattle.op_laws.specs.declared.TheConstants.{MAX_ELEMENTS}
use Rattle.std.proofs.Common.{◌≡◌, ℕ, zero, suc, ◌+◌, ◌-◌, ◌<◌, ◌≤◌, ◌^◌, ◌⊎◌, Bool, true, false, cond, nat_lt, ℤ, List, [], ◌∷◌, ◌++◌, reverse, length, get_or, map, refl, sym, ◌∙◌, ap, subst, arith, inl, inr, append_assoc, length-append, Option, Some, None}
use Rattle.std.specs.List.{flat_map}
use Rattle.std.proofs.lemmas.Bool.{cases_lt}
use Rattle.std.proofs.lemmas.List.{reverse-append, reverse-reverse, map-append, append-nil, get_or_append_left, get_or-append_right}
use Rattle.std.proofs.lemmas.List.Concat.{flat_map-append}
use Rattle.bin_tree.proofs.TreeLemmas.{if_lt, if_ge}
use Rattle.op_laws.specs.TreeFolds.{Upward}
use Rattle.bridge_contract.proofs.Laws.{Laws}
use Rattle.bridge_contract.specs.Bridged.{Bridged, Ends, Leads, count, preorder, weight, up, ups, belows, FitsEach, AreBridged, AreUps, AreBelows, CanRaise, Raises, Tops}
use Rattle.bridge_contract.specs.declared.summary.Summary.{Summary}
use Rattle.bridge_contract.specs.declared.summary.Summary.TheVariants.{Value, Hole}

module _ {V G : Type 0} where
  -- the trees whose roots are the parts from the i-th on
  abbrev pub later : Bridged V G → ℕ → List (Bridged V G)
  later t zero = t ∷ []
  later (Ends v n) (suc i) = []
  later (Leads g n x y) (suc i) = cond (nat_lt i (count x)) (later x i ++ y ∷ []) (later y (i - count x))

  abbrev pub Heads : Summary V G → List (Bridged V G) → List (Bridged V G) → Type 0
  Heads (Value v n) before after = before ≡ Ends v n ∷ after
  Heads (Hole g n) before after = (x : Bridged V G) × (y : Bridged V G) × (rest : List (Bridged V G)) × (before ≡ Leads g n x y ∷ rest) × (after ≡ x ∷ y ∷ rest)

  pub count_pos : (t : Bridged V G) → 0 < count t
  count_pos (Ends v n) = omega arith
  count_pos (Leads g n x y) = omega arith

  pub length-preorder : (t : Bridged V G) → length (preorder t) ≡ count t
  length-preorder (Ends v n) = refl
  length-preorder (Leads g n x y) = let a = length-preorder x in let b = length-preorder y in let c = length-append (preorder x) (preorder y) in omega arith

  later_left : (g : G) (n : ℕ) (x y : Bridged V G) (i : ℕ) → i < count x → later (Leads g n x y) (suc i) ≡ later x i ++ y ∷ []
  later_left g n x y i h = if_lt i (count x) (later x i ++ y ∷ []) (later y (i - count x)) h

  later_right : (g : G) (n : ℕ) (x y : Bridged V G) (i j : ℕ) → i ≡ count x + j → later (Leads g n x y) (suc i) ≡ later y j
  later_right g n x y i j h = if_ge i (count x) (later x i ++ y ∷ []) (later y (i - count x)) (omega arith) ∙ ap (later y) (omega arith)

  pub later_end : (t : Bridged V G) → later t (count t) ≡ []
  later_end (Ends v n) = refl
  later_end (Leads g n x y) =
      let e : count (Leads g n x y) ≡ suc (count x + count y) = omega arith in
      ap (later (Leads g n x y)) e ∙ (later_right g n x y (count x + count y) (count y) refl ∙ later_end y)

  after_left : (g : G) (n : ℕ) (x y : Bridged V G) (i : ℕ) → i < count x → later (Leads g n x y) (suc (suc i)) ≡ later x (suc i) ++ y ∷ []
  after_left g n x y i h =
      elim (cases_lt (suc i) (count x)) as (λ _. later (Leads g n x y) (suc (suc i)) ≡ later x (suc i) ++ y ∷ []) [
        | inl l ↦ later_left g n x y (suc i) l
        | inr q ↦ let e : suc i ≡ count x = omega arith in later_right g n x y (suc i) 0 (omega arith) ∙ (refl ∙ ap (λ xs. xs ++ y ∷ []) (sym (ap (later x) e ∙ later_end x)))
      ]

  heads_more : (s : Summary V G) (before after more : List (Bridged V G)) → Heads s before after → Heads s (before ++ more) (after ++ more)
  heads_more (Value v n) before after more f = ap (λ xs. xs ++ more) f
  heads_more (Hole g n) before after more (x, y, rest, e, f) = (x, y, rest ++ more, ap (λ xs. xs ++ more) e, ap (λ xs. xs ++ more) f)

  heads_like : (s s' : Summary V G) (b b' a a' : List (Bridged V G)) → s ≡ s' → b ≡ b' → a ≡ a' → Heads s' b' a' → Heads s b a
  heads_like s s' b b' a a' e f g u = subst (λ x. Heads x b a) (sym e) (subst (λ x. Heads s' x a) (sym f) (subst (λ x. Heads s' b' x) (sym g) u))

  pub heads_at : (t : Bridged V G) (i : ℕ) (d : Summary V G) → i < count t → Heads (get_or (preorder t) i d) (later t i) (later t (suc i))
  heads_at (Ends v n) zero d h = refl
  heads_at (Ends v n) (suc i) d h = absurd (omega arith)
  heads_at (Leads g n x y) zero d h = (x, y, [], refl, later_left g n x y 0 (count_pos x))
  heads_at (Leads g n x y) (suc i) d h =
      let l = length-preorder x in
      elim (cases_lt i (count x)) as (λ _. Heads (get_or (preorder (Leads g n x y)) (suc i) d) (later (Leads g n x y) (suc i)) (later (Leads g n x y) (suc (suc i)))) [
        | inl p ↦ heads_like _ (get_or (preorder x) i d) _ (later x i ++ y ∷ []) _ (later x (suc i) ++ y ∷ [])
            (get_or_append_left (preorder x) (preorder y) d i (omega arith)) (later_left g n x y i p) (after_left g n x y i p)
            (heads_more (get_or (preorder x) i d) (later x i) (later x (suc i)) (y ∷ []) (heads_at x i d p))
        | inr q ↦ let e : i ≡ count x + (i - count x) = omega arith in
            heads_like _ (get_or (preorder y) (i - count x) d) _ (later y (i - count x)) _ (later y (suc (i - count x)))
            (get_or-append_right (preorder x) (preorder y) (count x) i d l q) (later_right g n x y i (i - count x) e)
            (later_right g n x y (suc i) (suc (i - count x)) (omega arith)) (heads_at y (i - count x) d (omega arith))
      ]

  abbrev pub weights : List (Bridged V G) → ℕ
  weights [] = 0
  weights (t ∷ ts) = weight t + weights ts

  weights_push : (ts : List (Bridged V G)) (t : Bridged V G) → weights (ts ++ t ∷ []) ≡ weights ts + weight t
  weights_push [] t = omega arith
  weights_push (u ∷ ts) t = let r = weights_push ts t in omega arith

  pub later_weight : (t : Bridged V G) (i : ℕ) → weights (later t i) ≤ weight t
  later_weight t zero = omega arith
  later_weight (Ends v n) (suc i) = omega arith
  later_weight (Leads g n x y) (suc i) =
      elim (cases_lt i (count x)) as (λ _. weights (later (Leads g n x y) (suc i)) ≤ weight (Leads g n x y)) [
        | inl h ↦ let e = ap weights (later_left g n x y i h) in let f = weights_push (later x i) y in let r = later_weight x i in omega arith
        | inr h ↦ let e = ap weights (later_right g n x y i (i - count x) (omega arith)) in let r = later_weight y (i - count x) in omega arith
      ]

  abbrev pub FitsAll : (V → ℕ → Type 0) → (G → ℕ → Type 0) → List (Bridged V G) → Type 0
  FitsAll fits_v fits_g [] = Unit {0}
  FitsAll fits_v fits_g (t ∷ ts) = FitsEach fits_v fits_g t × FitsAll fits_v fits_g ts

  fits_push : (fits_v : V → ℕ → Type 0) (fits_g : G → ℕ → Type 0) (ts : List (Bridged V G)) (t : Bridged V G) → FitsAll fits_v fits_g ts → FitsEach fits_v fits_g t → FitsAll fits_v fits_g (ts ++ t ∷ [])
  fits_push fits_v fits_g [] t e f = (f, tt)
  fits_push fits_v fits_g (u ∷ ts) t e f = (e.0, fits_push fits_v fits_g ts t e.1 f)

  pub later_fits : (fits_v : V → ℕ → Type 0) (fits_g : G → ℕ → Type 0) (t : Bridged V G) (i : ℕ) → FitsEach fits_v fits_g t → FitsAll fits_v fits_g (later t i)
  later_fits fits_v fits_g t zero e = (e, tt)
  later_fits fits_v fits_g (Ends v n) (suc i) e = tt
  later_fits fits_v fits_g (Leads g n x y) (suc i) e =
      elim (cases_lt i (count x)) as (λ _. FitsAll fits_v fits_g (later (Leads g n x y) (suc i))) [
        | inl h ↦ subst (FitsAll fits_v fits_g) (sym (later_left g n x y i h)) (fits_push fits_v fits_g (later x i) y (later_fits fits_v fits_g x i e.1) e.2)
        | inr h ↦ subst (FitsAll fits_v fits_g) (sym (later_right g n x y i (i - count x) (omega arith))) (later_fits fits_v fits_g y (i - count x) e.2)
      ]

module _ {A V G : Type 0} (k : Upward A V G) where
  abbrev pub raised : Bridged V G → V × ℕ
  raised t = (up k t, weight t)

  -- the stack and the output, for the parts from the i-th on
  abbrev pub IsRaised : List (Bridged V G) → List (V × ℕ) → List V → Type 0
  IsRaised ts st out = (reverse st ≡ map raised ts) × (reverse out ≡ flat_map (ups k) ts)

  abbrev pub Raised : List (Summary V G) → ℕ → List (V × ℕ) → List V → Type 0
  Raised parts i st out = (t : Bridged V G) → preorder t ≡ parts → IsRaised (later t i) st out

  push_is : {X : Type 0} (st : List X) (s : X) → reverse (st ++ s ∷ []) ≡ s ∷ reverse st
  push_is st s = reverse-append st (s ∷ [])

  pub raise : (s : Summary V G) (before after : List (Bridged V G)) (st st' : List (V × ℕ)) (out : List V) (r : V × ℕ) → Heads s before after → IsRaised after st out → Raises k s st st' r
      → IsRaised before (st' ++ r ∷ []) (out ++ r.0 ∷ [])
  raise (Value v n) before after st st' out r f (a, o) (same, is) = (
    push_is st' r ∙ (ap (λ x. x ∷ reverse st') is ∙ (ap (λ x. (v, n) ∷ reverse x) same ∙ (ap (λ x. (v, n) ∷ x) a ∙ sym (ap (map raised) f)))),
    push_is out r.0 ∙ (ap (λ x. x.0 ∷ reverse out) is ∙ (ap (λ x. v ∷ x) o ∙ sym (ap (flat_map (ups k)) f))),
  )
  raise (Hole g n) before after st st' out r (x, y, rest, e, f) (a, o) (px, py, same, is) =
      let turned : px ∷ py ∷ reverse st' ≡ raised x ∷ raised y ∷ map raised rest =
      sym (ap reverse same ∙ (push_is (st' ++ py ∷ []) px ∙ ap (λ z. px ∷ z) (push_is st' py))) ∙ (a ∙ ap (map raised) f) in
      let ex : px ≡ raised x = cc in let ey : py ≡ raised y = cc in let et : reverse st' ≡ map raised rest = cc in
      let r_is : r ≡ raised (Leads g n x y) =
      is ∙ (ap (λ z. (k.node z.0 g py.0, z.1 + n + py.1)) ex ∙ ap (λ z. (k.node (up k x) g z.0, weight x + n + z.1)) ey) in (
        push_is st' r ∙ (ap (λ z. z ∷ reverse st') r_is ∙ (ap (λ z. raised (Leads g n x y) ∷ z) et ∙ sym (ap (map raised) e))),
        push_is out r.0 ∙ (ap (λ z. z.0 ∷ reverse out) r_is ∙ (ap (λ z. up k (Leads g n x y) ∷ z) (o ∙ (ap (flat_map (ups k)) f ∙ sym (append_assoc (ups k x) (ups k y) (flat_map (ups k) rest)))) ∙ sym (ap (flat_map (ups k)) e))),
      )

  module _ (takes : A → Type 0) (fits_v : V → ℕ → Type 0) (fits_g : G → ℕ → Type 0) (laws : Laws k takes fits_v fits_g) where
    pub up_fits : (t : Bridged V G) → FitsEach fits_v fits_g t → weight t ≤ MAX_ELEMENTS → fits_v (up k t) (weight t)
    up_fits (Ends v n) e h = e
    up_fits (Leads g n x y) e h = laws.node_fits (up k x) (weight x) g n (up k y) (weight y) h (up_fits x e.1 (omega arith)) e.0 (up_fits y e.2 (omega arith))

    two_of : (st ss : List (V × ℕ)) (x y : Bridged V G) (rest : List (Bridged V G)) → reverse st ≡ ss → ss ≡ map raised (x ∷ y ∷ rest)
        → (st' : List (V × ℕ)) × (px : V × ℕ) × (py : V × ℕ) × (st ≡ (st' ++ py ∷ []) ++ px ∷ []) × (px ≡ raised x) × (py ≡ raised y)
    two_of st [] x y rest e f = absurd (cc)
    two_of st (px ∷ []) x y rest e f = absurd (cc)
    two_of st (px ∷ py ∷ ss) x y rest e f =
        (reverse ss, px, py, sym (reverse-reverse st) ∙ (ap reverse e ∙ (reverse-append (px ∷ []) (py ∷ ss) ∙ ap (λ u. u ++ px ∷ []) (reverse-append (py ∷ []) ss))), cc, cc)

    pub can_raise : (s : Summary V G) (before after : List (Bridged V G)) (st : List (V × ℕ)) → Heads s before after → FitsAll fits_v fits_g before → weights before ≤ MAX_ELEMENTS
        → reverse st ≡ map raised after → CanRaise fits_v fits_g s st
    can_raise (Value v n) before after st f e h a = tt
    can_raise (Hole g n) before after st (x, y, rest, p, q) e h a =
        let w = ap weights p in let fit = subst (FitsAll fits_v fits_g) p e in
        let (st', px, py, is, ex, ey) = two_of st (reverse st) x y rest refl (a ∙ ap (map raised) q) in
        let nx = ap (λ z. z.1) ex in let ny = ap (λ z. z.1) ey in (
          fit.0.0,
          (
            st',
            px,
            py,
            is,
            omega arith,
            subst (λ z. fits_v z.0 z.1) (sym ex) (up_fits x fit.0.1 (omega arith)),
            subst (λ z. fits_v z.0 z.1) (sym ey) (up_fits y fit.0.2 (omega arith)),
          ),
        )

    pub can : (parts : List (Summary V G)) (i : ℕ) (s : Summary V G) (st : List (V × ℕ)) (out : List V) → AreBridged fits_v fits_g parts → 0 < i → i ≤ length parts → s ≡ get_or parts (i - 1) s → Raised parts i st out → CanRaise fits_v fits_g s st
    can parts i s st out (t, is, fit, few) p w e r =
        let n = length-preorder t in let l = ap length is in let lw = later_weight t (i - 1) in
        let up_i : suc (i - 1) ≡ i = omega arith in
        let s_is : s ≡ get_or (preorder t) (i - 1) s = e ∙ ap (λ x. get_or x (i - 1) s) (sym is) in
        let h = heads_at t (i - 1) s (omega arith) in
        can_raise s (later t (i - 1)) (later t i) st
        (subst (λ x. Heads s (later t (i - 1)) (later t x)) up_i (subst (λ x. Heads x (later t (i - 1)) (later t (suc (i - 1)))) (sym s_is) h))
        (later_fits fits_v fits_g t (i - 1) fit) (omega arith) (r t is).0

  pub raise_more : (parts : List (Summary V G)) (i : ℕ) (s : Summary V G) (st st' : List (V × ℕ)) (out : List V) (r : V × ℕ) → 0 < i → i ≤ length parts → s ≡ get_or parts (i - 1) s
      → Raises k s st st' r → Raised parts i st out → Raised parts (i - 1) (st' ++ r ∷ []) (out ++ r.0 ∷ [])
  raise_more parts i s st st' out r p w e x y t is =
      let n = length-preorder t in let l = ap length is in
      let up_i : suc (i - 1) ≡ i = omega arith in
      let s_is : s ≡ get_or (preorder t) (i - 1) s = e ∙ ap (λ x. get_or x (i - 1) s) (sym is) in
      let h = heads_at t (i - 1) s (omega arith) in
      raise s (later t (i - 1)) (later t i) st st' out r
      (subst (λ x. Heads s (later t (i - 1)) (later t x)) up_i (subst (λ x. Heads x (later t (i - 1)) (later t (suc (i - 1)))) (sym s_is) h)) (y t is) x

  pub raise_none : (parts : List (Summary V G)) (st : List (V × ℕ)) (out : List V) → st ≡ [] → out ≡ [] → Raised parts (length parts) st out
  raise_none parts st out e f t is =
      let n : length parts ≡ count t = ap length (sym is) ∙ length-preorder t in
      let z : later t (length parts) ≡ [] = ap (later t) n ∙ later_end t in
      (ap reverse e ∙ sym (ap (map raised) z), ap reverse f ∙ sym (ap (flat_map (ups k)) z))

  pub raise_all : (parts : List (Summary V G)) (i : ℕ) (st : List (V × ℕ)) (out vs : List V) → i ≡ 0 → vs ≡ reverse out → Raised parts i st out → AreUps k parts vs
  raise_all parts i st out vs z e y t is =
      let last : later t i ≡ t ∷ [] = ap (later t) z in
      e ∙ ((y t is).1 ∙ (ap (flat_map (ups k)) last ∙ append-nil (ups k t)))

  -- the pairs below holes, for the parts from the i-th on
  abbrev pub Below : List (Summary V G) → ℕ → List (Option (V × V)) → Type 0
  Below parts i os = (t : Bridged V G) → preorder t ≡ parts → reverse os ≡ flat_map (belows k) (later t i)

  pair_push : (os : List (Option (V × V))) (o : Option (V × V)) → reverse (os ++ o ∷ []) ≡ o ∷ reverse os
  pair_push os o = reverse-append os (o ∷ [])

  below : (s : Summary V G) (before after : List (Bridged V G)) (st : List (V × ℕ)) (os : List (Option (V × V))) (o : Option (V × V)) → Heads s before after → reverse st ≡ map raised after → Tops s st o
      → reverse os ≡ flat_map (belows k) after → reverse (os ++ o ∷ []) ≡ flat_map (belows k) before
  below (Value v n) before after st os o f a is b =
      pair_push os o ∙ ap (λ x. x ∷ reverse os) is ∙ ap (λ x. None ∷ x) b ∙ sym (ap (flat_map (belows k)) f)
  below (Hole g n) before after st os o (x, y, rest, e, f) a (st', px, py, same, is) b =
      let turned : px ∷ py ∷ reverse st' ≡ raised x ∷ raised y ∷ map raised rest =
      sym (ap reverse same ∙ (push_is (st' ++ py ∷ []) px ∙ ap (λ z. px ∷ z) (push_is st' py))) ∙ (a ∙ ap (map raised) f) in
      let ex : px ≡ raised x = cc in let ey : py ≡ raised y = cc in
      let pair : o ≡ Some (up k x, up k y) = is ∙ ap (λ z. Some (z.0, py.0)) ex ∙ ap (λ z. Some (up k x, z.0)) ey in
      pair_push os o ∙ ap (λ z. z ∷ reverse os) pair
      ∙ ap (λ z. Some (up k x, up k y) ∷ z) (b ∙ ap (flat_map (belows k)) f ∙ sym (append_assoc (belows k x) (belows k y) (flat_map (belows k) rest)))
      ∙ sym (ap (flat_map (belows k)) e)

  pub below_more : (parts : List (Summary V G)) (i : ℕ) (s : Summary V G) (st : List (V × ℕ)) (out : List V) (os : List (Option (V × V))) (o : Option (V × V)) → 0 < i → i ≤ length parts → s ≡ get_or parts (i - 1) s
      → Tops s st o → Raised parts i st out → Below parts i os → Below parts (i - 1) (os ++ o ∷ [])
  below_more parts i s st out os o p w e tops y z t is =
      let n = length-preorder t in let l = ap length is in
      let up_i : suc (i - 1) ≡ i = omega arith in
      let s_is : s ≡ get_or (preorder t) (i - 1) s = e ∙ ap (λ x. get_or x (i - 1) s) (sym is) in
      let h = heads_at t (i - 1) s (omega arith) in
      below s (later t (i - 1)) (later t i) st os o
      (subst (λ x. Heads s (later t (i - 1)) (later t x)) up_i (subst (λ x. Heads x (later t (i - 1)) (later t (suc (i - 1)))) (sym s_is) h)) (y t is).0 tops (z t is)

  pub below_none : (parts : List (Summary V G)) (os : List (Option (V × V))) → os ≡ [] → Below parts (length parts) os
  below_none parts os e t is =
      let n : length parts ≡ count t = ap length (sym is) ∙ length-preorder t in
      let z : later t (length parts) ≡ [] = ap (later t) n ∙ later_end t in
      ap reverse e ∙ sym (ap (flat_map (belows k)) z)

  pub below_all : (parts : List (Summary V G)) (i : ℕ) (os vs : List (Option (V × V))) → i ≡ 0 → vs ≡ reverse os → Below parts i os → AreBelows k parts vs
  below_all parts i os vs z e y t is =
      let last : later t i ≡ t ∷ [] = ap (later t) z in
      e ∙ (y t is ∙ (ap (flat_map (belows k)) last ∙ append-nil (belows k t)))

-- two values on top of a stack, by their places
pub tops_at : {V G : Type 0} (s : Summary V G) (fits_v : V → ℕ → Type 0) (fits_g : G → ℕ → Type 0) (g : G) (n : ℕ) (st : List (V × ℕ)) → s ≡ Hole g n → CanRaise fits_v fits_g s st → 2 ≤ length st
tops_at s fits_v fits_g g n st e can =
    let (rest, x, y, is, few, fx, fy) = (subst (λ u. CanRaise fits_v fits_g u st) e can).1 in
    let l = ap length is in let a = length-append (rest ++ y ∷ []) (x ∷ []) in let b = length-append rest (y ∷ []) in omega arith

pub tops_are : {V G : Type 0} (s : Summary V G) (fits_v : V → ℕ → Type 0) (fits_g : G → ℕ → Type 0) (g : G) (n : ℕ) (st : List (V × ℕ)) (first second : V × ℕ) → s ≡ Hole g n → CanRaise fits_v fits_g s st
    → first ≡ get_or st (length st - 1) first → second ≡ get_or st (length st - 2) second → Tops s st (Some (first.0, second.0))
tops_are {V} {G} s fits_v fits_g g n st first second e can f h =
    let (rest, x, y, is, few, fx, fy) = (subst (λ u. CanRaise fits_v fits_g u st) e can).1 in
    let l = ap length is in let a = length-append (rest ++ y ∷ []) (x ∷ []) in let b = length-append rest (y ∷ []) in
    let last : length st - 1 ≡ length (rest ++ y ∷ []) = omega arith in
    let before : length st - 2 ≡ length rest = omega arith in
    let first_is : first ≡ x = f ∙ ap (λ us. get_or us (length st - 1) first) is ∙ ap (λ i. get_or ((rest ++ y ∷ []) ++ x ∷ []) i first) last ∙ get_or-append_right (rest ++ y ∷ []) (x ∷ []) (length (rest ++ y ∷ [])) (length (rest ++ y ∷ [])) first refl (omega arith)
    ∙ ap (λ i. get_or (x ∷ []) i first) (let q : length (rest ++ y ∷ []) - length (rest ++ y ∷ []) ≡ 0 = omega arith in q) in
    let second_is : second ≡ y = h ∙ ap (λ us. get_or us (length st - 2) second) is ∙ ap (λ i. get_or ((rest ++ y ∷ []) ++ x ∷ []) i second) before
    ∙ get_or_append_left (rest ++ y ∷ []) (x ∷ []) second (length rest) (omega arith)
    ∙ get_or-append_right rest (y ∷ []) (length rest) (length rest) second refl (omega arith)
    ∙ ap (λ i. get_or (y ∷ []) i second) (let q : length rest - length rest ≡ 0 = omega arith in q) in
    subst (λ (u : Summary V G). Tops u st (Some (first.0, second.0))) (sym e)
    (rest, x, y, is, ap (λ z. Some (z.0, second.0)) first_is ∙ ap (λ z. Some (x.0, z.0)) second_is)
