-- The bridges of a tree by places: what each owns, and that each place is owned once.
use Rattle.std.proofs.Common.{◌≡◌, ℕ, zero, suc, ◌+◌, ◌<◌, ◌≤◌, ◌⊎◌, false, refl, sym, ◌∙◌, ap, subst, arith, inl, inr, Some, None, List, [], ◌∷◌, ◌++◌}
use Rattle.std.specs.List.{All, Contains}
use Rattle.std.proofs.lemmas.Bool.{cases_lt}
use Rattle.std.proofs.lemmas.List.Elements.{All-nil, All-cons, All-append, Contains-append_left, Contains-append_right, Contains-append_cases, Contains-push_cases}
use Rattle.op_laws.specs.Trees.{BTree, Node, size, sub_at, is_leaf}
use Rattle.bin_tree.proofs.TreeLemmas.{size_pos, within_at, sub_at-top, IsNodeAt}
use Rattle.bin_tree.proofs.Places.{sub_sub, is_node_at}
use Rattle.m_bridges.specs.Parts.{part_of, own, hole_of, further}
use Rattle.m_bridges.specs.Bridges.{bridge_at, bridges_below, bridges}
use Rattle.m_bridges.specs.Places.{HoleFits, IsBridgeOf, IsOwnPlace, OwnsPlace}
use Rattle.m_bridges.specs.declared.bridge.Bridge.{Bridge}
use Rattle.m_bridges.proofs.Cuts.{cut, IsWhole, IsHoled, own_few}

-- one of a longer list is the first or one of the rest
pub first_or_later : {X : Type 0} (x y : X) (xs : List X) → Contains (x ∷ xs) y → (y ≡ x) ⊎ Contains xs y
first_or_later x y xs c =
    elim (Contains-append_cases (x ∷ []) xs y c) as (λ _. (y ≡ x) ⊎ Contains xs y) [
      | inl d ↦ elim (Contains-push_cases [] x y d) as (λ _. (y ≡ x) ⊎ Contains xs y) [
        | inl e ↦ let (i, h, f) = e in absurd (omega arith)
        | inr e ↦ inl (sym e)
      ]
      | inr d ↦ inr d
    ]

pub is_first : {X : Type 0} (x : X) (xs : List X) → Contains (x ∷ xs) x
is_first x xs = (0, omega arith, refl)

pub is_later : {X : Type 0} (x y : X) (xs : List X) → Contains xs y → Contains (x ∷ xs) y
is_later x y xs c = Contains-append_right (x ∷ []) xs y c

-- of the bridges one owns the node at the place, and no bridge that differs from it
pub record OwnedOnce {A : Type 0} (t : BTree A) (bs : List Bridge) (i : ℕ) : Type 0 where
  pub some : (b : Bridge) × Contains bs b × OwnsPlace t b i
  pub only : (b c : Bridge) → Contains bs b → Contains bs c → OwnsPlace t b i → OwnsPlace t c i → b ≡ c

-- these bridges are of the tree, and own each place from `at` on so far as n once, and no other
pub record ArePlaced {A : Type 0} (m : ℕ) (t : BTree A) (at n : ℕ) (bs : List Bridge) : Type 0 where
  pub of : All (IsBridgeOf t) bs
  pub few : All (λ b. b.own ≤ m) bs
  pub inside : (b : Bridge) (i : ℕ) → Contains bs b → OwnsPlace t b i → (at ≤ i) × (i < at + n)
  pub once : (i : ℕ) → at ≤ i → i < at + n → OwnedOnce t bs i

-- a bridge and the bridges of two trees below its hole
module _ {A : Type 0} (m : ℕ) (t : BTree A) (at n h x y : ℕ) (b : Bridge) (ls rs : List Bridge)
    (of : IsBridgeOf t b) (few : b.own ≤ m) (owns : (i : ℕ) → OwnsPlace t b i → ((at ≤ i) × (i ≤ h)) ⊎ ((h + 1 + x + y ≤ i) × (i < at + n)))
    (owned : (i : ℕ) → ((at ≤ i) × (i ≤ h)) ⊎ ((h + 1 + x + y ≤ i) × (i < at + n)) → OwnsPlace t b i)
    (near : at ≤ h) (ends : h + 1 + x + y ≤ at + n)
    (left : ArePlaced m t (h + 1) x ls) (right : ArePlaced m t (h + 1 + x) y rs) where
  -- where a bridge that owns a place stands
  abbrev Where : Bridge → ℕ → Type 0
  Where c i = ((c ≡ b) × (((at ≤ i) × (i ≤ h)) ⊎ ((h + 1 + x + y ≤ i) × (i < at + n)))) ⊎ (Contains ls c × (h + 1 ≤ i) × (i < h + 1 + x)) ⊎ (Contains rs c × (h + 1 + x ≤ i) × (i < h + 1 + x + y))

  stands : (c : Bridge) (i : ℕ) → Contains (b ∷ (ls ++ rs)) c → OwnsPlace t c i → Where c i
  stands c i k o =
      elim (first_or_later b c (ls ++ rs) k) as (λ _. Where c i) [
        | inl e ↦ inl (e, owns i (subst (λ d. OwnsPlace t d i) e o))
        | inr d ↦ elim (Contains-append_cases ls rs c d) as (λ _. Where c i) [
          | inl e ↦ let w = left.inside c i e o in inr (inl (e, w.0, w.1))
          | inr e ↦ let w = right.inside c i e o in inr (inr (e, w.0, w.1))
        ]
      ]

  within : (c : Bridge) (i : ℕ) → Where c i → (at ≤ i) × (i < at + n)
  within c i (inl (e, inl w)) = (w.0, omega arith)
  within c i (inl (e, inr w)) = (omega arith, w.1)
  within c i (inr (inl w)) = (omega arith, omega arith)
  within c i (inr (inr w)) = (omega arith, omega arith)

  same : (c d : Bridge) (i : ℕ) → OwnsPlace t c i → OwnsPlace t d i → Where c i → Where d i → c ≡ d
  same c d i o p (inl (e, v)) (inl (f, w)) = e ∙ sym f
  same c d i o p (inr (inl v)) (inr (inl w)) = (left.once i v.1 v.2).only c d v.0 w.0 o p
  same c d i o p (inr (inr v)) (inr (inr w)) = (right.once i v.1 v.2).only c d v.0 w.0 o p
  same c d i o p (inl (e, inl v)) (inr (inl w)) = absurd (omega arith)
  same c d i o p (inl (e, inr v)) (inr (inl w)) = absurd (omega arith)
  same c d i o p (inl (e, inl v)) (inr (inr w)) = absurd (omega arith)
  same c d i o p (inl (e, inr v)) (inr (inr w)) = absurd (omega arith)
  same c d i o p (inr (inl v)) (inl (e, inl w)) = absurd (omega arith)
  same c d i o p (inr (inl v)) (inl (e, inr w)) = absurd (omega arith)
  same c d i o p (inr (inr v)) (inl (e, inl w)) = absurd (omega arith)
  same c d i o p (inr (inr v)) (inl (e, inr w)) = absurd (omega arith)
  same c d i o p (inr (inl v)) (inr (inr w)) = absurd (omega arith)
  same c d i o p (inr (inr v)) (inr (inl w)) = absurd (omega arith)

  found : (i : ℕ) → at ≤ i → i < at + n → (c : Bridge) × Contains (b ∷ (ls ++ rs)) c × OwnsPlace t c i
  found i low high =
      elim (cases_lt i (h + 1)) as (λ _. (c : Bridge) × Contains (b ∷ (ls ++ rs)) c × OwnsPlace t c i) [
        | inl p ↦ (b, is_first b (ls ++ rs), owned i (inl (low, omega arith)))
        | inr p ↦ elim (cases_lt i (h + 1 + x)) as (λ _. (c : Bridge) × Contains (b ∷ (ls ++ rs)) c × OwnsPlace t c i) [
          | inl q ↦ let (c, k, o) = (left.once i p q).some in (c, is_later b c (ls ++ rs) (Contains-append_left ls rs c k), o)
          | inr q ↦ elim (cases_lt i (h + 1 + x + y)) as (λ _. (c : Bridge) × Contains (b ∷ (ls ++ rs)) c × OwnsPlace t c i) [
            | inl r ↦ let (c, k, o) = (right.once i q r).some in (c, is_later b c (ls ++ rs) (Contains-append_right ls rs c k), o)
            | inr r ↦ (b, is_first b (ls ++ rs), owned i (inr (r, high)))
          ]
        ]
      ]

  pub around : ArePlaced m t at n (b ∷ (ls ++ rs))
  around = record {
    of = All-cons (IsBridgeOf t) b (ls ++ rs) of (All-append (IsBridgeOf t) ls rs left.of right.of);
    few = All-cons (λ b. b.own ≤ m) b (ls ++ rs) few (All-append (λ b. b.own ≤ m) ls rs left.few right.few);
    inside = λ c i k o. within c i (stands c i k o);
    once = λ i low high. record { some = found i low high; only = λ c d k l o p. same c d i o p (stands c i k o) (stands d i l p) };
  }

-- one bridge that owns all of a subtree
alone : {A : Type 0} (m : ℕ) (t : BTree A) (at n : ℕ) (b : Bridge) → IsBridgeOf t b → b.own ≤ m → ((i : ℕ) → OwnsPlace t b i → (at ≤ i) × (i < at + n))
    → ((i : ℕ) → (at ≤ i) × (i < at + n) → OwnsPlace t b i) → ArePlaced m t at n (b ∷ [])
alone m t at n b of few owns owned =
    let one : (c : Bridge) → Contains (b ∷ []) c → c ≡ b = λ c k. elim (Contains-push_cases [] b c k) as (λ _. c ≡ b) [ inl e ↦ (let (i, h, f) = e in absurd (omega arith)) | inr e ↦ sym e ] in
    record {
      of = All-cons (IsBridgeOf t) b [] of (All-nil (IsBridgeOf t));
      few = All-cons (λ b. b.own ≤ m) b [] few (All-nil (λ b. b.own ≤ m));
      inside = λ c i k o. owns i (subst (λ d. OwnsPlace t d i) (one c k) o);
      once = λ i low high. record { some = (b, is_first b [], owned i (low, high)); only = λ c d k l o p. one c k ∙ sym (one d l) };
    }

module _ {A : Type 0} (m : ℕ) (pos_m : 0 < m) (t : BTree A) where
  -- the bridge of a root without a hole
  no_hole_of : (s : BTree A) (at : ℕ) → at < size t → sub_at t at ≡ s → IsWhole m s → ArePlaced m t at (size s) (bridge_at m at s ∷ [])
  no_hole_of s at h e w =
      let z = ap size e in
      let o : further at (hole_of m s) ≡ None = ap (further at) w.nowhere in
      let all : own (part_of m s) ≡ size (sub_at t at) = w.all ∙ sym z in
      alone m t at (size s) (bridge_at m at s)
      (record { within = h; hole = subst (HoleFits t at (own (part_of m s))) (sym o) all })
      (own_few m pos_m s)
      (λ i x. let p = subst (λ o. IsOwnPlace t at o i) o x in (p.0, omega arith))
      (λ i x. let p : IsOwnPlace t at None i = (x.0, omega arith) in subst (λ o. IsOwnPlace t at o i) (sym o) p)

  -- the bridge of a root with a hole
  hole_fits : (s : BTree A) (at h : ℕ) (b : A) (l r : BTree A) → at < size t → sub_at t at ≡ s → IsHoled m s h b l r → IsNodeAt t (at + h) b l r → IsBridgeOf t (bridge_at m at s)
  hole_fits s at h b l r q e d n =
      let z = ap size e in let k = ap size n.is in let w = d.within in let rest = d.rest in
      let o : further at (hole_of m s) ≡ Some (at + h) = ap (further at) d.place in
      let inner : is_leaf (sub_at t (at + h)) ≡ false = ap is_leaf n.is in
      let fits : HoleFits t at (own (part_of m s)) (Some (at + h)) = (omega arith, omega arith, inner, omega arith) in
      record { within = q; hole = subst (HoleFits t at (own (part_of m s))) (sym o) fits }

  with_hole : (s : BTree A) (at h : ℕ) (b : A) (l r : BTree A) → at < size t → sub_at t at ≡ s → IsHoled m s h b l r → IsNodeAt t (at + h) b l r
      → ArePlaced m t (at + h + 1) (size l) (bridges m (at + h + 1) l) → ArePlaced m t (at + h + 1 + size l) (size r) (bridges m (at + h + 1 + size l) r)
      → ArePlaced m t at (size s) (bridge_at m at s ∷ (bridges m (at + h + 1) l ++ bridges m (at + h + 1 + size l) r))
  with_hole s at h b l r q e d n left right =
      let z = ap size e in let k = ap size n.is in let w = within_at s h d.within in let here = ap size d.here in
      let o : further at (hole_of m s) ≡ Some (at + h) = ap (further at) d.place in
      around m t at (size s) (at + h) (size l) (size r) (bridge_at m at s) (bridges m (at + h + 1) l) (bridges m (at + h + 1 + size l) r)
      (hole_fits s at h b l r q e d n) (own_few m pos_m s)
      (λ i x. owns_ends i (subst (λ o. IsOwnPlace t at o i) o x) z k)
      (λ i x. subst (λ o. IsOwnPlace t at o i) (sym o) (ends_own i x z k))
      (omega arith) (omega arith) left right
    where
      owns_ends : (i : ℕ) → IsOwnPlace t at (Some (at + h)) i → size (sub_at t at) ≡ size s → size (sub_at t (at + h)) ≡ 1 + size l + size r → ((at ≤ i) × (i ≤ at + h)) ⊎ ((at + h + 1 + size l + size r ≤ i) × (i < at + size s))
      owns_ends i (inl x) z k = inl x
      owns_ends i (inr x) z k = inr (omega arith, omega arith)

      ends_own : (i : ℕ) → ((at ≤ i) × (i ≤ at + h)) ⊎ ((at + h + 1 + size l + size r ≤ i) × (i < at + size s)) → size (sub_at t at) ≡ size s → size (sub_at t (at + h)) ≡ 1 + size l + size r → IsOwnPlace t at (Some (at + h)) i
      ends_own i (inl x) z k = inl x
      ends_own i (inr x) z k = inr (omega arith, omega arith)

  placed_to : (n : ℕ) (s : BTree A) (at : ℕ) → size s ≤ n → at < size t → sub_at t at ≡ s → ArePlaced m t at (size s) (bridges m at s)
  placed_to zero s at q h e = let p = size_pos s in absurd (omega arith)
  placed_to (suc n) s at q h e =
      elim (cut m pos_m s) as (λ _. ArePlaced m t at (size s) (bridges m at s)) [
        | inl w ↦ subst (λ bs. ArePlaced m t at (size s) (bridge_at m at s ∷ bs)) (sym (w.none_below at)) (no_hole_of s at h e w)
        | inr (k, b, l, r, d) ↦
            let z = ap size e in let inner = within_at s k d.within in let outer = within_at t at h in let y = ap size d.here in
            let pl = size_pos l in let pr = size_pos r in
            let here : sub_at t (at + k) ≡ Node b l r = sub_sub t at k h (omega arith) ∙ ap (λ u. sub_at u k) e ∙ d.here in
            let node = is_node_at t (at + k) (omega arith) b l r here in
            let i : 1 + (at + k) ≡ at + k + 1 = omega arith in
            let two : bridges_below m at s ≡ bridges m (at + k + 1) l ++ bridges m (at + k + 1 + size l) r = d.below at ∙ ap (λ j. bridges m j l ++ bridges m (j + size l) r) i in
            subst (λ bs. ArePlaced m t at (size s) (bridge_at m at s ∷ bs)) (sym two)
            (with_hole s at k b l r h e d node
            (placed_to n l (at + k + 1) (omega arith) (omega arith) node.left)
            (placed_to n r (at + k + 1 + size l) (omega arith) (omega arith) node.right))
      ]

-- the bridges of the whole tree
pub placed : {A : Type 0} (m : ℕ) (t : BTree A) → 0 < m → ArePlaced m t 0 (size t) (bridges m 0 t)
placed m t p = placed_to m p t (size t) t 0 (omega arith) (size_pos t) (sub_at-top t)
