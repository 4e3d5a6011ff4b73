-- The stack, one own node further.
use Rattle.std.proofs.Common.{◌≡◌, ℕ, zero, suc, ◌+◌, ◌-◌, ◌<◌, ◌≤◌, ◌⊎◌, Bool, true, false, cond, nat_lt, ℤ, List, [], ◌∷◌, ◌++◌, refl, sym, ◌∙◌, ap, subst, arith, inl, inr, Option, Some, None}
use Rattle.std.proofs.lemmas.Bool.{cases_lt}
use Rattle.op_laws.specs.Trees.{BTree, Leaf, Node, size, sub_at}
use Rattle.bin_tree.proofs.TreeLemmas.{if_lt, if_ge, sub_at-left, sub_at-right, size_pos}
use Rattle.m_bridges.specs.Parts.{Part, End, Stop, Join, own, holes, hung}
use Rattle.bridge_contract.specs.Pending.{tree_head, head_at, pending, Fronts}
use Rattle.bridge_contract.specs.declared.head.Head.{Head}
use Rattle.bridge_contract.specs.declared.head.Head.TheVariants.{AtEnd, AtStop, AtJoin}
use Rattle.m_bridges.specs.Parts.{cut_at}

pub own_pos : (p : Part (List ℤ)) → 0 < own p
own_pos (End a) = omega arith
own_pos (Stop b) = omega arith
own_pos (Join b p q) = omega arith

module _ where
  pub pending_left : (b : (List ℤ)) (p q : Part (List ℤ)) (k : ℕ) → k < own p → pending (Join b p q) (suc k) ≡ pending p k ++ q ∷ []
  pending_left b p q k h = if_lt k (own p) (pending p k ++ q ∷ []) (pending q (k - own p)) h

  pub pending_right : (b : (List ℤ)) (p q : Part (List ℤ)) (k j : ℕ) → k ≡ own p + j → pending (Join b p q) (suc k) ≡ pending q j
  pending_right b p q k j h = if_ge k (own p) (pending p k ++ q ∷ []) (pending q (k - own p)) (omega arith) ∙ ap (pending q) (omega arith)

  pub head_left : (b : (List ℤ)) (p q : Part (List ℤ)) (k : ℕ) → k < own p → head_at (Join b p q) (suc k) ≡ head_at p k
  head_left b p q k h = if_lt k (own p) (head_at p k) (head_at q (k - own p)) h

  pub head_right : (b : (List ℤ)) (p q : Part (List ℤ)) (k j : ℕ) → k ≡ own p + j → head_at (Join b p q) (suc k) ≡ head_at q j
  head_right b p q k j h = if_ge k (own p) (head_at p k) (head_at q (k - own p)) (omega arith) ∙ ap (head_at q) (omega arith)

  pub pending_end : (p : Part (List ℤ)) → pending p (own p) ≡ []
  pending_end (End a) = refl
  pending_end (Stop b) = refl
  pending_end (Join b p q) =
      let e : own (Join b p q) ≡ suc (own p + own q) = omega arith in
      ap (pending (Join b p q)) e ∙ (pending_right b p q (own p + own q) (own q) refl ∙ pending_end q)

  -- a node in front of the parts of the left part is one in front of them and the right one
  pub fronts_more : (h : Head) (before after more : List (Part (List ℤ))) → Fronts h before after → Fronts h (before ++ more) (after ++ more)
  fronts_more (AtEnd a) before after more f = ap (λ xs. xs ++ more) f
  fronts_more (AtStop b) before after more f = ap (λ xs. xs ++ more) f
  fronts_more (AtJoin b) before after more (p, q, rest, e, g) = (p, q, rest ++ more, ap (λ xs. xs ++ more) e, ap (λ xs. xs ++ more) g)

  fronts_like : (h h' : Head) (b b' a a' : List (Part (List ℤ))) → h ≡ h' → b ≡ b' → a ≡ a' → Fronts h' b' a' → Fronts h b a
  fronts_like h h' b b' a a' e f g u = subst (λ x. Fronts x b a) (sym e) (subst (λ x. Fronts h' x a) (sym f) (subst (λ x. Fronts h' b' x) (sym g) u))

  -- what follows the last node of the left part is the right part
  after_left : (b : (List ℤ)) (p q : Part (List ℤ)) (k : ℕ) → k < own p → pending (Join b p q) (suc (suc k)) ≡ pending p (suc k) ++ q ∷ []
  after_left b p q k h =
      elim (cases_lt (suc k) (own p)) as (λ _. pending (Join b p q) (suc (suc k)) ≡ pending p (suc k) ++ q ∷ []) [
        | inl l ↦ pending_left b p q (suc k) l
        | inr g ↦
            let e : suc k ≡ own p = omega arith in
            pending_right b p q (suc k) 0 (omega arith) ∙ (refl ∙ ap (λ xs. xs ++ q ∷ []) (sym (ap (pending p) e ∙ pending_end p)))
      ]

  pub fronts_at : (p : Part (List ℤ)) (k : ℕ) → k < own p → Fronts (head_at p k) (pending p k) (pending p (suc k))
  fronts_at (End a) zero h = refl
  fronts_at (End a) (suc k) h = absurd (omega arith)
  fronts_at (Stop b) zero h = refl
  fronts_at (Stop b) (suc k) h = absurd (omega arith)
  fronts_at (Join b p q) zero h = (p, q, [], refl, pending_left b p q 0 (own_pos p))
  fronts_at (Join b p q) (suc k) h =
      elim (cases_lt k (own p)) as (λ _. Fronts (head_at (Join b p q) (suc k)) (pending (Join b p q) (suc k)) (pending (Join b p q) (suc (suc k)))) [
        | inl l ↦ fronts_like _ (head_at p k) _ (pending p k ++ q ∷ []) _ (pending p (suc k) ++ q ∷ []) (head_left b p q k l) (pending_left b p q k l) (after_left b p q k l)
            (fronts_more (head_at p k) (pending p k) (pending p (suc k)) (q ∷ []) (fronts_at p k l))
        | inr g ↦
            let j = k - own p in let e : k ≡ own p + (k - own p) = omega arith in
            fronts_like _ (head_at q (k - own p)) _ (pending q (k - own p)) _ (pending q (suc (k - own p))) (head_right b p q k (k - own p) e) (pending_right b p q k (k - own p) e)
            (pending_right b p q (suc k) (suc (k - own p)) (omega arith)) (fronts_at q (k - own p) (omega arith))
      ]

  -- the own nodes by their places in the tree
  pub own_whole : (t : BTree (List ℤ)) → own (cut_at t None) ≡ size t
  own_whole (Leaf a) = refl
  own_whole (Node b l r) = let p = own_whole l in let q = own_whole r in omega arith

  pub head_whole : (t : BTree (List ℤ)) (k : ℕ) → k < size t → head_at (cut_at t None) k ≡ tree_head (sub_at t k)
  head_whole (Leaf a) k h = refl
  head_whole (Node b l r) zero h = refl
  head_whole (Node b l r) (suc k) h =
      let n = own_whole l in
      elim (cases_lt k (size l)) as (λ _. head_at (cut_at (Node b l r) None) (suc k) ≡ tree_head (sub_at (Node b l r) (suc k))) [
        | inl p ↦ head_left b (cut_at l None) (cut_at r None) k (omega arith) ∙ (head_whole l k p ∙ ap tree_head (sym (sub_at-left b l r k p)))
        | inr q ↦
            let e : k ≡ size l + (k - size l) = omega arith in
            head_right b (cut_at l None) (cut_at r None) k (k - size l) (omega arith) ∙ (head_whole r (k - size l) (omega arith) ∙ ap tree_head (sym (sub_at-right b l r k (k - size l) e)))
      ]
