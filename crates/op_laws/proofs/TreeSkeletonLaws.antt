-- The skeletons on binary trees and the columns of a tree.
use Rattle.std.proofs.Common.{◌≡◌, List, ◌∷◌, ◌++◌, map, refl, sym, ◌∙◌, ap, false}
use Rattle.std.proofs.lemmas.List.{map-append}
use Rattle.op_laws.specs.Trees.{BTree, Leaf, Node, top, column, values_of}
use Rattle.op_laws.specs.TreeFolds.{fold_by, down_by}
use Rattle.op_laws.specs.TreeSkeletons.{mapped, put_up, put_down, KeepsShape}

-- a node in front of two lists
cons_both : {X : Type 0} (a b : X) (xs us ys vs : List X) → a ≡ b → xs ≡ us → ys ≡ vs → a ∷ (xs ++ ys) ≡ b ∷ (us ++ vs)
cons_both a b xs us ys vs e f g = ap (λ z. z ∷ (xs ++ ys)) e ∙ ap (λ zs. b ∷ (zs ++ ys)) f ∙ ap (λ zs. b ∷ (us ++ zs)) g

module _ {A X : Type 0} (leaf : A → X) (node : X → A → X → X) where
  up_top : (t : BTree A) → top (put_up leaf node t) ≡ fold_by leaf node t
  up_top (Leaf a) = refl
  up_top (Node b l r) = refl

  pub up_shape : (t : BTree A) → KeepsShape t (put_up leaf node t) (column (fold_by leaf node) t)
  up_shape (Leaf a) = record { marks = refl; values = refl }
  up_shape (Node b l r) =
      let x = up_shape l in let y = up_shape r in
      record { marks = cons_both false false _ _ _ _ refl x.marks y.marks; values = cons_both _ _ _ _ _ _ refl x.values y.values }

module _ {A X : Type 0} (left right : X → A → X) where
  pub down_shape : (c : X) (t : BTree A) → KeepsShape t (put_down left right c t) (down_by left right c t)
  down_shape c (Leaf a) = record { marks = refl; values = refl }
  down_shape c (Node b l r) =
      let x = down_shape (left c b) l in let y = down_shape (right c b) r in
      record { marks = cons_both false false _ _ _ _ refl x.marks y.marks; values = cons_both c c _ _ _ _ refl x.values y.values }

module _ {A B : Type 0} (f : A → B) where
  pub map_shape : (t : BTree A) → KeepsShape t (mapped f t) (map f (values_of t))
  map_shape (Leaf a) = record { marks = refl; values = refl }
  map_shape (Node b l r) =
      let x = map_shape l in let y = map_shape r in
      record {
        marks = cons_both false false _ _ _ _ refl x.marks y.marks;
        values = cons_both (f b) (f b) _ _ _ _ refl x.values y.values ∙ ap (λ zs. f b ∷ zs) (sym (map-append f (values_of l) (values_of r)));
      }
