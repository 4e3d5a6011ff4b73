-- The summary of a part says what it should.
use Rattle.op_laws.specs.declared.TheConstants.{MAX_ELEMENTS}
use Rattle.std.proofs.Common.{◌≡◌, ℕ, zero, suc, ◌+◌, ◌-◌, ◌<◌, ◌≤◌, ◌^◌, refl, sym, ◌∙◌, ap, subst, arith}
use Rattle.op_laws.specs.Trees.{BTree, Leaf, Node, size, Each}
use Rattle.m_bridges.specs.Parts.{Part, End, Stop, Join, own, holes, hung}
use Rattle.op_laws.specs.TreeFolds.{Upward, fold_tree}
use Rattle.bridge_contract.proofs.Laws.{Laws}
use Rattle.bridge_contract.specs.Summaries.{EachOwn, joined, summary, Sums}
use Rattle.bridge_contract.specs.declared.summary.Summary.{Summary}
use Rattle.bridge_contract.specs.declared.summary.Summary.TheVariants.{Value, Hole}

module _ {A V G : Type 0} (k : Upward A V G) (takes : A → Type 0) (fits_v : V → ℕ → Type 0) (fits_g : G → ℕ → Type 0) (laws : Laws k takes fits_v fits_g) where
  pub fold_fits : (t : BTree A) → Each takes t → size t ≤ MAX_ELEMENTS → fits_v (fold_tree k t) (size t)
  fold_fits (Leaf a) e h = laws.leaf_fits a e
  fold_fits (Node b l r) e h =
      let f = laws.node_fits _ (size l) _ 1 _ (size r) (omega arith) (fold_fits l e.1 (omega arith)) (laws.phi_fits b e.0) (fold_fits r e.2 (omega arith)) in
      let same : size l + 1 + size r ≡ size (Node b l r) = omega arith in
      subst (fits_v (fold_tree k (Node b l r))) same f

  pub join_sums : (b : A) (p q : Part A) (s t : Summary V G) → takes b → holes (Join b p q) ≤ 1 → own (Join b p q) ≤ MAX_ELEMENTS
      → Sums k takes fits_v fits_g p s → Sums k takes fits_v fits_g q t → Sums k takes fits_v fits_g (Join b p q) (joined k b s t)
  join_sums b p q (Value l nl) (Value r nr) tb h o u v = (
    omega arith,
    omega arith,
    laws.node_fits l nl (k.phi b) 1 r nr (omega arith) u.2 (laws.phi_fits b tb) v.2,
    (λ x y. ap (λ a. k.node a (k.phi b) (fold_tree k (hung q x y))) (u.3 x y) ∙ ap (λ a. k.node l (k.phi b) a) (v.3 x y)),
  )
  join_sums b p q (Hole g n) (Value r nr) tb h o u v = (
    omega arith,
    omega arith,
    laws.left_fits g n (k.phi b) 1 r nr (omega arith) u.2 (laws.phi_fits b tb) v.2,
    (λ x y ex ey w.
        ap (λ a. k.node a (k.phi b) (fold_tree k (hung q x y))) (u.3 x y ex ey (omega arith))
        ∙ (ap (λ a. k.node (k.node (fold_tree k x) g (fold_tree k y)) (k.phi b) a) (v.3 x y)
        ∙ laws.contract_left (fold_tree k x) (size x) g n (fold_tree k y) (size y) (k.phi b) 1 r nr (omega arith)
        (fold_fits x ex (omega arith)) u.2 (fold_fits y ey (omega arith)) (laws.phi_fits b tb) v.2)),
  )
  join_sums b p q (Value l nl) (Hole g n) tb h o u v = (
    omega arith,
    omega arith,
    laws.right_fits l nl (k.phi b) 1 g n (omega arith) u.2 (laws.phi_fits b tb) v.2,
    (λ x y ex ey w.
        ap (λ a. k.node a (k.phi b) (fold_tree k (hung q x y))) (u.3 x y)
        ∙ (ap (λ a. k.node l (k.phi b) a) (v.3 x y ex ey (omega arith))
        ∙ laws.contract_right l nl (k.phi b) 1 (fold_tree k x) (size x) g n (fold_tree k y) (size y) (omega arith)
        u.2 (laws.phi_fits b tb) (fold_fits x ex (omega arith)) v.2 (fold_fits y ey (omega arith)))),
  )
  join_sums b p q (Hole g n) (Hole h' n') tb h o u v = absurd (let e = u.0 in let f = v.0 in omega arith)

  pub sums : (p : Part A) → EachOwn takes p → holes p ≤ 1 → own p ≤ MAX_ELEMENTS → Sums k takes fits_v fits_g p (summary k p)
  sums (End a) e h o = (refl, refl, laws.leaf_fits a e, (λ x y. refl))
  sums (Stop b) e h o = (refl, refl, laws.phi_fits b e, (λ x y ex ey w. refl))
  sums (Join b p q) e h o =
      join_sums b p q (summary k p) (summary k q) e.0 h o (sums p e.1 (omega arith) (omega arith)) (sums q e.2 (omega arith) (omega arith))
