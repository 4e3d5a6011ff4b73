-- The values at the roots of bridges.
use Rattle.op_laws.specs.declared.TheConstants.{MAX_ELEMENTS}
use Rattle.std.proofs.Common.{◌≡◌, ℕ, ◌<◌, ◌≤◌, ℤ, List, [], ◌∷◌, ◌++◌, length, get_or, map, sym, ◌∙◌, ap, subst, arith, refl, Option, Some, None}
use Rattle.std.specs.Prelude.{slice_get}
use Rattle.std.proofs.lemmas.List.{length-map, get_or-map}
use Rattle.std.proofs.lemmas.Option.{get_or_from_slice_get}
use Rattle.op_laws.specs.Trees.{BTree, size, sub_at, Each}
use Rattle.op_laws.specs.TreeFolds.{Upward, fold_tree}
use Rattle.m_bridges.specs.declared.bridge.Bridge.{Bridge}
use Rattle.m_bridges.specs.Bridges.{bridges}
use Rattle.m_bridges.specs.Places.{IsBridgeOf}
use Rattle.bridge_contract.specs.declared.summary.Summary.{Summary}
use Rattle.bridge_contract.specs.SumsOf.{SumsOf}
use Rattle.bridge_contract.specs.Bridged.{AreBridged, AreUps, AreBelows}
use Rattle.bridge_contract.specs.OwnNodes.{AreBelow}
use Rattle.bridge_contract.proofs.WholeLemmas.{all_joined, may_join, all_of}
use Rattle.bridge_contract.specs.AtRoots.{AreFolds, ArePairs, pair_below}

-- of values that are made of each bridge, the one at a place
pub made_at : {V : Type 0} (f : Bridge → V) (bs : List Bridge) (vs : List V) (i : ℕ) (b : Bridge) (d : V) → vs ≡ map f bs → i < length bs → slice_get bs i ≡ Some b → get_or vs i d ≡ f b
made_at f bs vs i b d made h e = ap (λ q. get_or q i d) made ∙ (get_or-map f bs i b d h ∙ ap f (get_or_from_slice_get bs i b b e))

pub made_length : {V : Type 0} (f : Bridge → V) (bs : List Bridge) (vs : List V) → vs ≡ map f bs → length vs ≡ length bs
made_length f bs vs made = ap length made ∙ length-map bs f

-- a bridge of a cut is one by places
pub bridge_is : (m : ℕ) → 0 < m → (t : BTree (List ℤ)) (bs : List Bridge) (i : ℕ) (b : Bridge) → bs ≡ bridges m 0 t → i < length bs → slice_get bs i ≡ Some b → IsBridgeOf t b
bridge_is m p t bs i b same h e = subst (IsBridgeOf t) (get_or_from_slice_get bs i b b e) (all_of m p t bs i b same h)

abbrev pub fold_at : {V G : Type 0} → Upward (List ℤ) V G → BTree (List ℤ) → Bridge → V
fold_at k t b = fold_tree k (sub_at t b.root)

module _ {V G : Type 0} (k : Upward (List ℤ) V G) (takes : List ℤ → Type 0) (fits_v : V → ℕ → Type 0) (fits_g : G → ℕ → Type 0) (t : BTree (List ℤ)) where
  pub cut_may_join : (m : ℕ) → 0 < m → size t ≤ MAX_ELEMENTS → Each takes t → (bs : List Bridge) → bs ≡ bridges m 0 t → (ss : List (Summary V G)) → SumsOf k takes fits_v fits_g t bs ss → AreBridged fits_v fits_g ss
  cut_may_join m p few e bs same ss x = may_join k takes fits_v fits_g t m p few e ss (subst (λ z. SumsOf k takes fits_v fits_g t z ss) same x)

  pub folds_are : (m : ℕ) → 0 < m → size t ≤ MAX_ELEMENTS → Each takes t → (bs : List Bridge) → bs ≡ bridges m 0 t → (ss : List (Summary V G)) (vs : List V)
      → SumsOf k takes fits_v fits_g t bs ss → AreUps k ss vs → AreFolds k t bs vs
  folds_are m p few e bs same ss vs x a =
      let (y, is, w, f, u, b, d) = all_joined k takes fits_v fits_g t m p few e ss (subst (λ z. SumsOf k takes fits_v fits_g t z ss) same x) in
      a y is ∙ (b ∙ ap (map (fold_at k t)) (sym same))

  pub pairs_are : (m : ℕ) → 0 < m → size t ≤ MAX_ELEMENTS → Each takes t → (ss : List (Summary V G)) (os : List (Option (V × V)))
      → SumsOf k takes fits_v fits_g t (bridges m 0 t) ss → AreBelows k ss os → ArePairs k t (bridges m 0 t) os
  pairs_are m p few e ss os x a =
      let (y, is, w, f, u, b, d) = all_joined k takes fits_v fits_g t m p few e ss x in
      a y is ∙ d

pub pair_fits : {V G : Type 0} (k : Upward (List ℤ) V G) (t : BTree (List ℤ)) (hole : Option ℕ) → AreBelow k t hole (pair_below k t hole)
pair_fits k t None = refl
pair_fits k t (Some h) = refl
