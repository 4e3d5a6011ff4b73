-- The values of children in the columns of a tree.
use Rattle.std.proofs.Common.{◌≡◌, ℕ, ◌+◌, ◌<◌, Bool, true, false, ◌∷◌, ◌++◌, refl, sym, ◌∙◌, ap, arith}
use Rattle.op_laws.specs.Trees.{BTree, Leaf, Node, size, is_leaf, top, sub_at, column, marks_of, values_of}
use Rattle.op_laws.specs.TreeSkeletons.{left_values, right_values, KeepsShape}
use Rattle.bin_tree.proofs.TreeLemmas.{node_at, size_pos}
use Rattle.tree_accumulate.specs.Children.{child_at}

module _ {A : Type 0} where
  -- where the children of an inner node stand
  pub record IsInner (t : BTree A) (c : A) (i : ℕ) : Type 0 where
    pub left_within : i + 1 < size t
    pub right_within : i + 1 + size (sub_at t (i + 1)) < size t
    pub left : child_at false c (sub_at t i) ≡ top (sub_at t (i + 1))
    pub right : child_at true c (sub_at t i) ≡ top (sub_at t (i + 1 + size (sub_at t (i + 1))))

  pub inner_at : (t : BTree A) (c : A) (i : ℕ) → i < size t → is_leaf (sub_at t i) ≡ false → IsInner t c i
  inner_at t c i h f =
      let (b, l, r, n) = node_at t i h f in
      let w = n.within in let p = size_pos l in let q = size_pos r in
      let s = ap size n.left in
      record {
        left_within = omega arith;
        right_within = omega arith;
        left = ap (child_at false c) n.is ∙ ap top (sym n.left);
        right = ap (child_at true c) n.is ∙ ap top (sym (ap (λ k. sub_at t (i + 1 + k)) s ∙ n.right));
      }

  pub leaf_at : (right : Bool) (c : A) (t : BTree A) → is_leaf t ≡ true → child_at right c t ≡ c
  leaf_at right c (Leaf a) e = refl
  leaf_at right c (Node b l r) e = absurd (cc)

  pub left_shape : (c : A) (t : BTree A) → KeepsShape t (left_values c t) (column (child_at false c) t)
  left_shape c (Leaf a) = record { marks = refl; values = refl }
  left_shape c (Node b l r) =
      let x = left_shape c l in let y = left_shape c r in
      record {
        marks = ap (λ ms. false ∷ (ms ++ marks_of (left_values c r))) x.marks ∙ ap (λ ms. false ∷ (marks_of l ++ ms)) y.marks;
        values = ap (λ vs. top l ∷ (vs ++ values_of (left_values c r))) x.values ∙ ap (λ vs. top l ∷ (column (child_at false c) l ++ vs)) y.values;
      }

  pub right_shape : (c : A) (t : BTree A) → KeepsShape t (right_values c t) (column (child_at true c) t)
  right_shape c (Leaf a) = record { marks = refl; values = refl }
  right_shape c (Node b l r) =
      let x = right_shape c l in let y = right_shape c r in
      record {
        marks = ap (λ ms. false ∷ (ms ++ marks_of (right_values c r))) x.marks ∙ ap (λ ms. false ∷ (marks_of l ++ ms)) y.marks;
        values = ap (λ vs. top r ∷ (vs ++ values_of (right_values c r))) x.values ∙ ap (λ vs. top r ∷ (column (child_at true c) l ++ vs)) y.values;
      }
