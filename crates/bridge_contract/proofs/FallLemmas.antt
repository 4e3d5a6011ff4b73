-- The values at roots, one part further.
use Rattle.std.proofs.Common.{◌≡◌, ℕ, zero, suc, ◌+◌, ◌<◌, ◌≤◌, List, [], ◌∷◌, ◌++◌, reverse, length, get_or, map, take, drop, refl, sym, ◌∙◌, ap, subst, arith, append_assoc}
use Rattle.std.specs.List.{flat_map}
use Rattle.std.proofs.Math.Seq.{drop-cons}
use Rattle.std.proofs.Common.{length-append}
use Rattle.std.proofs.lemmas.List.{reverse-append, reverse-reverse, append-nil, length-drop, same_from_push}
use Rattle.op_laws.specs.declared.TheConstants.{MAX_ELEMENTS}
use Rattle.op_laws.specs.TreeFolds.{Downward}
use Rattle.bridge_contract.specs.Downs.{Fallen, Lands, Splits, preorder, downs, FitsDown, AreFallen, AreDowns}
use Rattle.bridge_contract.specs.Dropped.{FitsOn, CanDrop, placed, Drops}
use Rattle.bridge_contract.specs.declared.down_summary.DownSummary.{DownSummary}
use Rattle.bridge_contract.specs.declared.down_summary.DownSummary.TheVariants.{End as Ended, Both}

-- a tree of parts that waits, with the value at its root and its weight
pub data Waiting (V D : Type 0) : Type 0 where
  Waits : V → ℕ → Fallen D → Waiting V D

abbrev pub entry : {V D : Type 0} → Waiting V D → V × ℕ
entry (Waits v m t) = (v, m)

abbrev pub parts_of : {V D : Type 0} → List (Waiting V D) → List (DownSummary D)
parts_of [] = []
parts_of (Waits v m t ∷ ws) = preorder t ++ parts_of ws

push_is : {X : Type 0} (st : List X) (s : X) → reverse (st ++ s ∷ []) ≡ s ∷ reverse st
push_is st s = reverse-append st (s ∷ [])

module _ {A V D : Type 0} (k : Downward A V D) (fits : V → ℕ → Type 0) (fits_way : D → ℕ → Type 0) where
  abbrev pub values_of : List (Waiting V D) → List V
  values_of [] = []
  values_of (Waits v m t ∷ ws) = downs k v t ++ values_of ws

  abbrev pub EachFits : List (Waiting V D) → Type 0
  EachFits [] = Unit {0}
  EachFits (Waits v m t ∷ ws) = fits v m × FitsDown fits_way m t × EachFits ws

  -- what waits, the stack, and what is done, before the part with this place
  pub record IsFalling (c : V) (parts : List (DownSummary D)) (i : ℕ) (st : List (V × ℕ)) (out : List V) (x : Fallen D) : Type 0 where
    pub ws : List (Waiting V D)
    pub stack : reverse st ≡ map entry ws
    pub rest : parts_of ws ≡ drop i parts
    pub done : out ++ values_of ws ≡ downs k c x
    pub fit : FitsDown fits_way 1 x → EachFits ws

  abbrev pub Falling : V → List (DownSummary D) → ℕ → List (V × ℕ) → List V → Type 0
  Falling c parts i st out = (x : Fallen D) → preorder x ≡ parts → IsFalling c parts i st out x

  pub begins : (c : V) (parts : List (DownSummary D)) (st : List (V × ℕ)) (out : List V) → st ≡ (c, 1) ∷ [] → out ≡ [] → fits c 1 → Falling c parts 0 st out
  begins c parts st out e f fc x is = record {
    ws = Waits c 1 x ∷ [];
    stack = ap reverse e;
    rest = append-nil (preorder x) ∙ is;
    done = ap (λ o. o ++ (downs k c x ++ [])) f ∙ append-nil (downs k c x);
    fit = λ q. (fc, q, tt);
  }

  top_of : (v : V) (m : ℕ) (ws : List (V × ℕ)) (st : List (V × ℕ)) → reverse st ≡ (v, m) ∷ ws → st ≡ reverse ws ++ (v, m) ∷ []
  top_of v m ws st e = sym (reverse-reverse st) ∙ ap reverse e ∙ reverse-append ((v, m) ∷ []) ws

  can : (ws : List (Waiting V D)) (st : List (V × ℕ)) (part : DownSummary D) (later : List (DownSummary D)) → reverse st ≡ map entry ws → parts_of ws ≡ part ∷ later → EachFits ws → CanDrop fits fits_way part st
  can [] st part later a b f = absurd (cc)
  can (Waits v m Lands ∷ ws) st part later a b f =
      let is : Ended ≡ part = cc in
      let none : FitsOn fits fits_way (v, m) Ended = tt in
      (reverse (map entry ws), (v, m), top_of v m (map entry ws) st a, subst (FitsOn fits fits_way (v, m)) is none)
  can (Waits v m (Splits l r n y z) ∷ ws) st part later a b f =
      let is : Both l r n ≡ part = cc in
      let both : FitsOn fits fits_way (v, m) (Both l r n) = (f.1.0, f.0, f.1.1, f.1.2) in
      (reverse (map entry ws), (v, m), top_of v m (map entry ws) st a, subst (FitsOn fits fits_way (v, m)) is both)

  -- what waits after the part
  pub record IsAfter (c : V) (later : List (DownSummary D)) (st : List (V × ℕ)) (out : List V) (x : Fallen D) : Type 0 where
    pub ws : List (Waiting V D)
    pub stack : reverse st ≡ map entry ws
    pub rest : parts_of ws ≡ later
    pub done : out ++ values_of ws ≡ downs k c x
    pub fit : FitsDown fits_way 1 x → EachFits ws

  module _ (down_fits : (c : V) (nc : ℕ) (d : D) (nd : ℕ) → nc + nd ≤ MAX_ELEMENTS → fits c nc → fits_way d nd → fits (k.down c d) (nc + nd)) where
    falls : (c : V) (ws : List (Waiting V D)) (st st' : List (V × ℕ)) (out : List V) (part : DownSummary D) (later : List (DownSummary D)) (value : V) (x : Fallen D)
        → reverse st ≡ map entry ws → parts_of ws ≡ part ∷ later → out ++ values_of ws ≡ downs k c x → (FitsDown fits_way 1 x → EachFits ws) → Drops k part st st' value
        → IsAfter c later st' (out ++ value ∷ []) x
    falls c [] st st' out part later value x a b d f g = absurd (cc)
    falls c (Waits v m Lands ∷ ws) st st' out part later value x a b d f (rest, top, e, g, h) =
        let turned : top ∷ reverse rest ≡ (v, m) ∷ map entry ws = sym (ap reverse e ∙ push_is rest top) ∙ a in
        let et : top ≡ (v, m) = cc in let er : reverse rest ≡ map entry ws = cc in
        let is : part ≡ Ended = cc in let lt : parts_of ws ≡ later = cc in
        let val : value ≡ v = h ∙ ap (λ (z : V × ℕ). z.0) et in
        record {
          ws = ws;
          stack = ap reverse (g ∙ ap (λ p. placed k top p rest) is) ∙ er;
          rest = lt;
          done = append_assoc out (value ∷ []) (values_of ws) ∙ ap (λ z. out ++ (z ∷ values_of ws)) val ∙ d;
          fit = λ q. (f q).2;
        }
    falls c (Waits v m (Splits l r n y z) ∷ ws) st st' out part later value x a b d f (rest, top, e, g, h) =
        let turned : top ∷ reverse rest ≡ (v, m) ∷ map entry ws = sym (ap reverse e ∙ push_is rest top) ∙ a in
        let et : top ≡ (v, m) = cc in let er : reverse rest ≡ map entry ws = cc in
        let is : part ≡ Both l r n = cc in let lt : (preorder y ++ preorder z) ++ parts_of ws ≡ later = cc in
        let val : value ≡ v = h ∙ ap (λ (z : V × ℕ). z.0) et in
        let right : V × ℕ = (k.down v r, m + n) in let left : V × ℕ = (k.down v l, m + n) in
        let st_is : st' ≡ (rest ++ right ∷ []) ++ left ∷ [] = g ∙ ap (λ p. placed k top p rest) is ∙ ap (λ q. placed k q (Both l r n) rest) et in
        let vy = downs k (k.down v l) y in let vz = downs k (k.down v r) z in
        record {
          ws = Waits (k.down v l) (m + n) y ∷ Waits (k.down v r) (m + n) z ∷ ws;
          stack = ap reverse st_is ∙ push_is (rest ++ right ∷ []) left ∙ ap (λ q. left ∷ q) (push_is rest right ∙ ap (λ q. right ∷ q) er);
          rest = sym (append_assoc (preorder y) (preorder z) (parts_of ws)) ∙ lt;
          done = append_assoc out (value ∷ []) (vy ++ (vz ++ values_of ws)) ∙ ap (λ q. out ++ (q ∷ (vy ++ (vz ++ values_of ws)))) val
              ∙ ap (λ q. out ++ (v ∷ q)) (sym (append_assoc vy vz (values_of ws))) ∙ d;
          fit = λ q. let u = f q in (down_fits v m l n u.1.0 u.0 u.1.1, u.1.3, (down_fits v m r n u.1.0 u.0 u.1.2, u.1.4, u.2));
        }

    pub falls_on : (c : V) (parts : List (DownSummary D)) (i : ℕ) (st st' : List (V × ℕ)) (out : List V) (part : DownSummary D) (value : V) → i < length parts → part ≡ get_or parts i part
        → Drops k part st st' value → Falling c parts i st out → Falling c parts (i + 1) st' (out ++ value ∷ [])
    falls_on c parts i st st' out part value within is drops falling x e =
        let now = falling x e in
        let cut : drop i parts ≡ part ∷ drop (suc i) parts = drop-cons parts i part within ∙ ap (λ p. p ∷ drop (suc i) parts) (sym is) in
        let next = falls c now.ws st st' out part (drop (suc i) parts) value x now.stack (now.rest ∙ cut) now.done now.fit drops in
        let more : suc i ≡ i + 1 = omega arith in
        record { ws = next.ws; stack = next.stack; rest = next.rest ∙ ap (λ j. drop j parts) more; done = next.done; fit = next.fit }

  pub can_drop : (c : V) (parts : List (DownSummary D)) (i : ℕ) (st : List (V × ℕ)) (out : List V) (part : DownSummary D) → i < length parts → part ≡ get_or parts i part
      → AreFallen fits_way parts → Falling c parts i st out → CanDrop fits fits_way part st
  can_drop c parts i st out part within is (x, e, fit) falling =
      let now = falling x e in
      let cut : drop i parts ≡ part ∷ drop (suc i) parts = drop-cons parts i part within ∙ ap (λ p. p ∷ drop (suc i) parts) (sym is) in
      can now.ws st part (drop (suc i) parts) now.stack (now.rest ∙ cut) (now.fit fit)

  none_left : (ws : List (Waiting V D)) → parts_of ws ≡ [] → values_of ws ≡ []
  none_left [] e = refl
  none_left (Waits v m Lands ∷ ws) e = absurd (cc)
  none_left (Waits v m (Splits l r n y z) ∷ ws) e = absurd (cc)

  nothing_after : (parts : List (DownSummary D)) (i : ℕ) → length parts ≤ i → drop i parts ≡ []
  nothing_after [] zero h = refl
  nothing_after [] (suc i) h = refl
  nothing_after (p ∷ parts) zero h = absurd (omega arith)
  nothing_after (p ∷ parts) (suc i) h = nothing_after parts i (omega arith)

  pub fallen_all : (c : V) (parts : List (DownSummary D)) (i : ℕ) (st : List (V × ℕ)) (out : List V) → length parts ≤ i → Falling c parts i st out → AreDowns k c parts out
  fallen_all c parts i st out past falling x e =
      let now = falling x e in
      let none = none_left now.ws (now.rest ∙ nothing_after parts i past) in
      sym (append-nil out) ∙ ap (λ vs. out ++ vs) (sym none) ∙ now.done

  -- ---- one part

  pub some_top : (part : DownSummary D) (st : List (V × ℕ)) → CanDrop fits fits_way part st → 0 < length st
  some_top part st (rest, top, e, f) = let n = ap length e in let m = length-append rest (top ∷ []) in omega arith

  pub fits_top : (part : DownSummary D) (st st0 : List (V × ℕ)) (top : V × ℕ) → st ≡ st0 ++ top ∷ [] → CanDrop fits fits_way part st → FitsOn fits fits_way top part
  fits_top part st st0 top e (rest, top', g, f) = subst (λ t. FitsOn fits fits_way t part) (sym (same_from_push st0 rest top top' (sym e ∙ g)).1) f
