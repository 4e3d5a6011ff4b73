-- The roots of the bridges ascend, so that a bridge has one number, and the places that it owns ascend.
use Rattle.std.proofs.Common.{◌≡◌, ℕ, zero, suc, ◌+◌, ◌-◌, ◌<◌, ◌≤◌, ◌⊎◌, ◌==◌, true, false, cond, nat_lt, refl, sym, ◌∙◌, ap, subst, arith, inl, inr, ℤ, List, [], ◌∷◌, ◌++◌, Option, Some, None, Bool}
use Rattle.std.specs.Prelude.{slice_get}
use Rattle.std.specs.List.{All, Contains}
use Rattle.std.proofs.lemmas.Bool.{cases_lt}
use Rattle.std.proofs.lemmas.Option.{slice_get_within, get_or_from_slice_get, slice_get-get_or}
use Rattle.op_laws.specs.Trees.{BTree, Leaf, Node, size, sub_at}
use Rattle.bin_tree.proofs.TreeLemmas.{if_lt, if_ge, size_pos, within_at}
use Rattle.bin_tree.proofs.Places.{sub_sub}
use Rattle.m_bridges.specs.Parts.{is_critical}
use Rattle.m_bridges.specs.Bridges.{bridge_at, bridges_below, bridges, RootsAscend, with_node_above}
use Rattle.m_bridges.specs.Places.{HoleFits, IsBridgeOf, IsOwnPlace, OwnsPlace, OwnsByNumber, IsOwnedOnce, own_place_from, own_place, AreNumbered}
use Rattle.m_bridges.specs.declared.bridge.Bridge.{Bridge}
use Rattle.m_bridges.proofs.Cuts.{true_or_false, below_at}
use Rattle.m_bridges.proofs.PlacedLemmas.{OwnedOnce, placed}
use Rattle.m_bridges.specs.Numbered.{IsNumbered}

-- the roots ascend from one place on, up to another
abbrev Ascend : ℕ → ℕ → List Bridge → Type 0
Ascend low high [] = low ≤ high
Ascend low high (b ∷ bs) = (low ≤ b.root) × Ascend (1 + b.root) high bs

from_lower : (low low' high : ℕ) (bs : List Bridge) → low' ≤ low → Ascend low high bs → Ascend low' high bs
from_lower low low' high [] h x = omega arith
from_lower low low' high (b ∷ bs) h x = (let y = x.0 in omega arith, x.1)

both : (low middle high : ℕ) (bs cs : List Bridge) → Ascend low middle bs → Ascend middle high cs → Ascend low high (bs ++ cs)
both low middle high [] cs x y = from_lower middle low high cs x y
both low middle high (b ∷ bs) cs x y = (x.0, both (1 + b.root) middle high bs cs x.1 y)

below_ascend : {A : Type 0} (m : ℕ) (t : BTree A) (at : ℕ) → Ascend (1 + at) (at + size t) (bridges_below m at t)
below_ascend m (Leaf a) at = omega arith
below_ascend m (Node b l r) at =
    let x = below_ascend m l (1 + at) in let y = below_ascend m r (1 + at + size l) in
    let end : 1 + at + size l + size r ≡ at + size (Node b l r) = omega arith in
    elim (true_or_false (is_critical m (Node b l r))) as (λ _. Ascend (1 + at) (at + size (Node b l r)) (bridges_below m at (Node b l r))) [
      | inl c ↦
          subst (Ascend (1 + at) (at + size (Node b l r))) (sym (below_at m b l r true at c))
          (both (1 + at) (1 + at + size l) (at + size (Node b l r)) (bridges m (1 + at) l) (bridges m (1 + at + size l) r)
          (omega arith, x)
          (subst (λ n. Ascend (1 + at + size l) n (bridges m (1 + at + size l) r)) end (omega arith, y)))
      | inr c ↦
          subst (Ascend (1 + at) (at + size (Node b l r))) (sym (below_at m b l r false at c))
          (both (1 + at) (1 + at + size l) (at + size (Node b l r)) (bridges_below m (1 + at) l) (bridges_below m (1 + at + size l) r)
          (from_lower (1 + (1 + at)) (1 + at) (1 + at + size l) (bridges_below m (1 + at) l) (omega arith) x)
          (subst (λ n. Ascend (1 + at + size l) n (bridges_below m (1 + at + size l) r)) end
          (from_lower (1 + (1 + at + size l)) (1 + at + size l) (1 + at + size l + size r) (bridges_below m (1 + at + size l) r) (omega arith) y)))
    ]

not_lower : (low high : ℕ) (bs : List Bridge) (i : ℕ) (b : Bridge) → Ascend low high bs → slice_get bs i ≡ Some b → low ≤ b.root
not_lower low high [] i b x e = cc
not_lower low high (c ∷ bs) zero b x e = let same : c ≡ b = cc in subst (λ d. low ≤ d.root) same x.0
not_lower low high (c ∷ bs) (suc i) b x e = let y = not_lower (1 + c.root) high bs i b x.1 e in let z = x.0 in omega arith

ascend_by_number : (low high : ℕ) (bs : List Bridge) → Ascend low high bs → RootsAscend bs
ascend_by_number low high [] x i j b c h e f = cc
ascend_by_number low high (d ∷ bs) x zero zero b c h e f = absurd (omega arith)
ascend_by_number low high (d ∷ bs) x zero (suc j) b c h e f =
    let same : d ≡ b = cc in let y = not_lower (1 + d.root) high bs j c x.1 f in let z = ap (λ (u : Bridge). u.root) same in omega arith
ascend_by_number low high (d ∷ bs) x (suc i) zero b c h e f = absurd (omega arith)
ascend_by_number low high (d ∷ bs) x (suc i) (suc j) b c h e f = ascend_by_number (1 + d.root) high bs x.1 i j b c (omega arith) e f

pub roots_ascend : {A : Type 0} (m : ℕ) (t : BTree A) → RootsAscend (bridges m 0 t)
roots_ascend m t = ascend_by_number 0 (0 + size t) (bridges m 0 t) (omega arith, below_ascend m t 0)

-- what is at a number is one of the list, and has the number where it is one of it
contained : (bs : List Bridge) (n : ℕ) (b : Bridge) → slice_get bs n ≡ Some b → Contains bs b
contained bs n b e = (n, slice_get_within bs n b e, get_or_from_slice_get bs n b b e)

numbered : (bs : List Bridge) (b : Bridge) → Contains bs b → (n : ℕ) × (slice_get bs n ≡ Some b)
numbered bs b (n, h, e) = (n, slice_get-get_or bs n b h ∙ ap Some e)

one_number : (bs : List Bridge) → RootsAscend bs → (n k : ℕ) (b c : Bridge) → slice_get bs n ≡ Some b → slice_get bs k ≡ Some c → b ≡ c → n ≡ k
one_number bs up n k b c e f same =
    let z = ap (λ (u : Bridge). u.root) same in
    elim (cases_lt n k) as (λ _. n ≡ k) [
      | inl p ↦ let less = up n k b c p e f in absurd (omega arith)
      | inr p ↦ elim (cases_lt k n) as (λ _. n ≡ k) [
        | inl q ↦ let less = up k n c b q f e in absurd (omega arith)
        | inr q ↦ omega arith
      ]
    ]

pub owned_once : {A : Type 0} (t : BTree A) (bs : List Bridge) (i : ℕ) → RootsAscend bs → OwnedOnce t bs i → IsOwnedOnce t bs i
owned_once t bs i up once =
    let (b, k, o) = once.some in let (n, e) = numbered bs b k in
    record {
      some = (n, (b, e, o));
      only = λ n k x y. one_number bs up n k x.0 y.0 x.1 y.1 (once.only x.0 y.0 (contained bs n x.0 x.1) (contained bs k y.0 y.1) x.2 y.2);
    }

pub few_above : (m : ℕ) (b : Bridge) → b.own ≤ m → with_node_above b ≤ m + 1
few_above m b h = few_as m b (b.root == 0) h
  where
    few_as : (m : ℕ) (b : Bridge) (first : Bool) → b.own ≤ m → cond first b.own (1 + b.own) ≤ m + 1
    few_as m b true h = omega arith
    few_as m b false h = omega arith

-- ---- the own places, numbered

module _ {A : Type 0} (t : BTree A) (root own : ℕ) where
  at_number : (h k : ℕ) → root + k ≤ h → own_place_from t root (Some h) k ≡ root + k
  at_number h k p = if_ge h (root + k) (root + k + (size (sub_at t h) - 1)) (root + k) p

  past_number : (h k : ℕ) → h < root + k → own_place_from t root (Some h) k ≡ root + k + (size (sub_at t h) - 1)
  past_number h k p = if_lt h (root + k) (root + k + (size (sub_at t h) - 1)) (root + k) p

  owned_from : (o : Option ℕ) (k : ℕ) → root < size t → HoleFits t root own o → k < own → IsOwnPlace t root o (own_place_from t root o k)
  owned_from None k w f g = (omega arith, omega arith)
  owned_from (Some h) k w f g =
      let s = size_pos (sub_at t h) in let (a, b, c, d) = f in
      elim (cases_lt h (root + k)) as (λ _. IsOwnPlace t root (Some h) (own_place_from t root (Some h) k)) [
        | inl p ↦ subst (IsOwnPlace t root (Some h)) (sym (past_number h k p)) (inr (omega arith, omega arith))
        | inr p ↦ subst (IsOwnPlace t root (Some h)) (sym (at_number h k p)) (inl (omega arith, omega arith))
      ]

  ascend_from : (o : Option ℕ) (j k : ℕ) → j < k → own_place_from t root o j < own_place_from t root o k
  ascend_from None j k g = omega arith
  ascend_from (Some h) j k g =
      elim (cases_lt h (root + j)) as (λ _. own_place_from t root (Some h) j < own_place_from t root (Some h) k) [
        | inl p ↦ let a = past_number h j p in let b = past_number h k (omega arith) in omega arith
        | inr p ↦ elim (cases_lt h (root + k)) as (λ _. own_place_from t root (Some h) j < own_place_from t root (Some h) k) [
          | inl q ↦ let a = at_number h j p in let b = past_number h k q in omega arith
          | inr q ↦ let a = at_number h j p in let b = at_number h k q in omega arith
        ]
      ]

  number_from : (o : Option ℕ) (i : ℕ) → root < size t → HoleFits t root own o → IsOwnPlace t root o i → (k : ℕ) × (k < own) × (own_place_from t root o k ≡ i)
  number_from None i w f (a, b) = (i - root, omega arith, omega arith)
  number_from (Some h) i w f (inl x) =
      let s = size_pos (sub_at t h) in let (a, b, c, d) = f in let (low, high) = x in
      let e = sub_sub t root (h - root) w b in
      let same = ap (λ j. size (sub_at t j)) (let q : root + (h - root) ≡ h = omega arith in q) in
      let z = ap size e in let inside = within_at (sub_at t root) (h - root) b in
      (i - root, omega arith, at_number h (i - root) (omega arith) ∙ (let e : root + (i - root) ≡ i = omega arith in e))
  number_from (Some h) i w f (inr x) =
      let s = size_pos (sub_at t h) in let (a, b, c, d) = f in let (low, high) = x in
      let k = i - (size (sub_at t h) - 1) - root in
      (k, omega arith, past_number h k (omega arith) ∙ (let e : root + k + (size (sub_at t h) - 1) ≡ i = omega arith in e))

pub are_numbered : {A : Type 0} (t : BTree A) (b : Bridge) → IsBridgeOf t b → AreNumbered t b
are_numbered t b is = record {
  owned = λ k g. owned_from t b.root b.own b.hole k is.within is.hole g;
  ascend = λ j k g. ascend_from t b.root b.own b.hole j k g;
  each = λ i o. number_from t b.root b.own b.hole i is.within is.hole o;
}

of_all : {A : Type 0} (t : BTree A) (bs : List Bridge) (n : ℕ) (b : Bridge) → All (IsBridgeOf t) bs → slice_get bs n ≡ Some b → IsBridgeOf t b
of_all t bs n b all at = subst (IsBridgeOf t) (get_or_from_slice_get bs n b b at) (all n b (slice_get_within bs n b at))

-- each place is an own place of some bridge
pub place_is_numbered : (m : ℕ) → 1 ≤ m → (t : BTree (List ℤ)) (i : ℕ) → i < size t → IsNumbered t (bridges m 0 t) i
place_is_numbered m some t i within =
    let all = placed m t some in
    let (n, (b, at, owns)) = (owned_once t (bridges m 0 t) i (roots_ascend m t) (all.once i (omega arith) (omega arith))).some in
    let (k, few, is) = (are_numbered t b (of_all t (bridges m 0 t) n b all.of at)).each i owns in
    record {
      number = n;
      bridge = b;
      listed = at;
      own_number = k;
      within = few;
      place = is;
    }
