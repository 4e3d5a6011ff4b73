-- Places within the subtree at a place, and where a node's children stand. Crates above cite these.
use Rattle.std.proofs.Common.{◌≡◌, ℕ, zero, suc, ◌+◌, ◌-◌, ◌<◌, true, false, refl, sym, ◌∙◌, ap, arith, inl, inr}
use Rattle.std.proofs.lemmas.Bool.{cases_lt}
use Rattle.bin_tree.specs.Trees.{BTree, Leaf, Node, size, is_leaf, sub_at}
use Rattle.bin_tree.proofs.TreeLemmas.{size_pos, sub_at-left, sub_at-right, within_at, IsNodeAt, node_at}

-- a place within the subtree at a place
pub sub_sub : {A : Type 0} (t : BTree A) (i j : ℕ) → i < size t → j < size (sub_at t i) → sub_at t (i + j) ≡ sub_at (sub_at t i) j
sub_sub (Leaf a) i j h g = refl
sub_sub (Node b l r) zero j h g = ap (sub_at (Node b l r)) (let e : 0 + j ≡ j = omega arith in e)
sub_sub (Node b l r) (suc i) j h g =
    let back : suc i + j ≡ suc (i + j) = omega arith in
    elim (cases_lt i (size l)) as (λ _. sub_at (Node b l r) (suc i + j) ≡ sub_at (sub_at (Node b l r) (suc i)) j) [
      | inl p ↦
          let e = sub_at-left b l r i p in let w = within_at l i p in let k = ap size e in
          ap (sub_at (Node b l r)) back ∙ (sub_at-left b l r (i + j) (omega arith) ∙ (sub_sub l i j p (omega arith) ∙ ap (λ s. sub_at s j) (sym e)))
      | inr q ↦
          let f : i ≡ size l + (i - size l) = omega arith in
          let e = sub_at-right b l r i (i - size l) f in let k = ap size e in
          ap (sub_at (Node b l r)) back ∙ (sub_at-right b l r (i + j) (i - size l + j) (omega arith) ∙ (sub_sub r (i - size l) j (omega arith) (omega arith) ∙ ap (λ s. sub_at s j) (sym e)))
    ]

same_node : {A : Type 0} (t : BTree A) (i : ℕ) (b c : A) (l r x y : BTree A) → sub_at t i ≡ Node b l r → IsNodeAt t i c x y → IsNodeAt t i b l r
same_node t i b c l r x y e n =
    let same = sym n.is ∙ e in
    let el : x ≡ l = cc in let er : y ≡ r = cc in
    let zl = ap size el in let zr = ap size er in let w = n.within in
    record {
      is = e;
      left = n.left ∙ el;
      right = ap (λ k. sub_at t (i + 1 + k)) (sym zl) ∙ n.right ∙ er;
      within = omega arith;
    }

-- where the subtree at a place is a node, its children stand there
pub is_node_at : {A : Type 0} (t : BTree A) (i : ℕ) → i < size t → (b : A) (l r : BTree A) → sub_at t i ≡ Node b l r → IsNodeAt t i b l r
is_node_at t i h b l r e =
    let (c, x, y, n) = node_at t i h (ap is_leaf e) in
    same_node t i b c l r x y e n

pub leaf_of_size : {A : Type 0} (t : BTree A) → size t ≡ 1 → is_leaf t ≡ true
leaf_of_size (Leaf a) e = refl
leaf_of_size (Node b l r) e = let p = size_pos l in absurd (omega arith)

pub node_of_size : {A : Type 0} (t : BTree A) → 1 < size t → is_leaf t ≡ false
node_of_size (Leaf a) e = absurd (omega arith)
node_of_size (Node b l r) e = refl
