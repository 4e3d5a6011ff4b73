-- The laws of all bridges of a tree together.
use Rattle.std.proofs.Common.{◌≡◌, ℕ, ◌+◌, ℤ, List, refl, sym, ◌∙◌, ap, subst, arith, None}
use Rattle.op_laws.specs.Trees.{BTree, size, sub_at}
use Rattle.op_laws.specs.TreeFolds.{Upward, Downward, fold_tree}
use Rattle.m_bridges.specs.Parts.{own, holes, hung, cut_at}
use Rattle.m_bridges.specs.Bridges.{bridges}
use Rattle.m_bridges.specs.Places.{HoleFits, IsBridgeOf, part_at, back}
use Rattle.m_bridges.specs.declared.bridge.Bridge.{Bridge}
use Rattle.bridge_contract.specs.declared.summary.Summary.{Summary}
use Rattle.bridge_contract.specs.declared.summary.Summary.TheVariants.{Value, Hole}
use Rattle.bridge_contract.specs.Summaries.{Sums}
use Rattle.bridge_contract.specs.DownsOf.{down_at}
use Rattle.bridge_contract.specs.AllBridges.{SummariesJoin, WaysJoin}
use Rattle.bridge_contract.proofs.DownLaws.{DownLaws}
use Rattle.bridge_contract.proofs.Stacks.{own_whole}
use Rattle.bridge_contract.proofs.CutLemmas.{holes_whole}
use Rattle.bridge_contract.proofs.OwnLemmas.{hung_whole}
use Rattle.bridge_contract.proofs.AtRootsLemmas.{cut_may_join, folds_are, pairs_are, pair_fits}
use Rattle.bridge_contract.proofs.AtRootsDownLemmas.{cut_may_fall, values_are, value_fits}

-- the summary of a bridge without a hole is the fold of its subtree
pub whole_sum : {V G : Type 0} (k : Upward (List ℤ) V G) (takes : List ℤ → Type 0) (fits : V → ℕ → Type 0) (fits_hole : G → ℕ → Type 0) (t : BTree (List ℤ)) (b : Bridge) (s : Summary V G)
    → IsBridgeOf t b → b.hole ≡ None → Sums k takes fits fits_hole (part_at t b) s → s ≡ Value (fold_tree k (sub_at t b.root)) b.own
whole_sum k takes fits fits_hole t b (Hole g n) is none sums =
    let none_here = ap (λ o. holes (cut_at (sub_at t b.root) (back b.root o))) none ∙ holes_whole (sub_at t b.root) in
    let one = sums.0 in absurd (omega arith)
whole_sum k takes fits fits_hole t b (Value v n) is none sums =
    let all : b.own ≡ size (sub_at t b.root) = subst (HoleFits t b.root b.own) none is.hole in
    let own_is = ap (λ o. own (cut_at (sub_at t b.root) (back b.root o))) none ∙ own_whole (sub_at t b.root) in
    let whole = ap (λ o. hung (cut_at (sub_at t b.root) (back b.root o)) t t) none ∙ hung_whole (sub_at t b.root) t t in
    let value : v ≡ fold_tree k (sub_at t b.root) = sym (sums.3 t t) ∙ ap (fold_tree k) whole in
    let count : n ≡ b.own = sums.1 ∙ own_is ∙ sym all in
    ap (λ x. Value x n) value ∙ ap (Value (fold_tree k (sub_at t b.root))) count

pub summaries_join : {V G : Type 0} (k : Upward (List ℤ) V G) (takes : List ℤ → Type 0) (fits : V → ℕ → Type 0) (fits_hole : G → ℕ → Type 0) → SummariesJoin k takes fits fits_hole
summaries_join k takes fits fits_hole = record {
  may_join = λ t m parts some few each sums. cut_may_join k takes fits fits_hole t m some few each (bridges m 0 t) refl parts sums;
  folds = λ t m parts vs some few each sums ups. folds_are k takes fits fits_hole t m some few each (bridges m 0 t) refl parts vs sums ups;
  pairs = λ t m parts os some few each sums are. pairs_are k takes fits fits_hole t m some few each parts os sums are;
  pair_fits = λ t hole. pair_fits k t hole;
}

pub ways_join : {V D : Type 0} (k : Downward (List ℤ) V D) (takes : List ℤ → Type 0) (fits : V → ℕ → Type 0) (fits_way : D → ℕ → Type 0) → DownLaws k takes fits fits_way → WaysJoin k takes fits fits_way
ways_join k takes fits fits_way laws = record {
  may_join = λ t m parts some few downs. cut_may_fall k takes fits fits_way laws t m some few (bridges m 0 t) refl parts downs;
  values = λ t m c parts vs some few fit downs are. values_are k takes fits fits_way laws t m some few (bridges m 0 t) refl c fit parts vs downs are;
  fit = λ t c i within few each fit. value_fits k takes fits fits_way laws c t i (down_at k c t i) within few each fit refl;
}
