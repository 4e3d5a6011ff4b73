-- Trees from their marks and values.
use Rattle.std.proofs.Common.{◌≡◌, ℕ, zero, suc, ◌+◌, ◌<◌, Bool, true, false, List, [], ◌∷◌, length, map, take, refl, sym, ◌∙◌, ap, arith, append_assoc, ℤ}
use Rattle.std.specs.List.{flat_map}
use Rattle.std.proofs.lemmas.List.{append-nil}
use Rattle.op_laws.specs.declared.width.Width.{Width}
use Rattle.op_laws.specs.Elements.{Elements}
use Rattle.bin_tree.specs.Trees.{BTree, Leaf, TypedTree, IsTreeOf, IsOnlyTreeOf, is_leaf, top, column}
use Rattle.bin_tree.specs.Codes.{tree_from-columns}
use Rattle.bin_tree.specs.Places.{open_after, IsWhole, arity}
use Rattle.bin_tree.specs.Columns.{grown, trees_from, first_or, tree_from}
use Rattle.bin_tree.proofs.PlaceLemmas.{open_after-none}

-- so many trees have these marks and values in preorder
record AreTreesOf {A : Type 0} (ts : List (BTree A)) (ms : List Bool) (vs : List A) (k : ℕ) : Type 0 where
  many : length ts ≡ k
  marks : flat_map (column is_leaf) ts ≡ ms
  values : flat_map (column top) ts ≡ vs

grown-node : {A : Type 0} (v : A) (ts : List (BTree A)) (ms : List Bool) (vs : List A) (k : ℕ) → AreTreesOf ts ms vs (k + 2) → AreTreesOf (grown false v ts) (false ∷ ms) (v ∷ vs) (suc k)
grown-node v [] ms vs k f = let n = f.many in absurd (omega arith)
grown-node v (t ∷ []) ms vs k f = let n = f.many in absurd (omega arith)
grown-node v (l ∷ r ∷ ts) ms vs k f =
    let n = f.many in
    record {
      many = omega arith;
      marks = ap (λ xs. false ∷ xs) (append_assoc (column is_leaf l) (column is_leaf r) (flat_map (column is_leaf) ts) ∙ f.marks);
      values = ap (λ xs. v ∷ xs) (append_assoc (column top l) (column top r) (flat_map (column top) ts) ∙ f.values);
    }

grown-leaf : {A : Type 0} (v : A) (ts : List (BTree A)) (ms : List Bool) (vs : List A) (k : ℕ) → AreTreesOf ts ms vs (k + 0) → AreTreesOf (grown true v ts) (true ∷ ms) (v ∷ vs) (suc k)
grown-leaf v ts ms vs k f =
    let n = f.many in record { many = omega arith; marks = ap (λ xs. true ∷ xs) f.marks; values = ap (λ xs. v ∷ xs) f.values }

-- k places are open, the last node closes the last of them and none before it does: then the nodes make k trees
grows : {A : Type 0} (ms : List Bool) (vs : List A) (k : ℕ) → length ms ≡ length vs
    → ((j : ℕ) → j < length (map arity ms) → 0 < open_after k (take j (map arity ms))) → open_after k (map arity ms) ≡ 0 → AreTreesOf (trees_from ms vs) ms vs k
grows [] [] k e h o = record { many = sym (sym (open_after-none k) ∙ o); marks = refl; values = refl }
grows [] (v ∷ vs) k e h o = absurd (omega arith)
grows (m ∷ ms) [] k e h o = absurd (omega arith)
grows (m ∷ ms) (v ∷ vs) zero e h o = let p = h 0 (omega arith) in absurd (omega arith)
grows (true ∷ ms) (v ∷ vs) (suc k) e h o = grown-leaf v (trees_from ms vs) ms vs k (grows ms vs (k + 0) (omega arith) (λ j l. h (suc j) (omega arith)) o)
grows (false ∷ ms) (v ∷ vs) (suc k) e h o = grown-node v (trees_from ms vs) ms vs k (grows ms vs (k + 2) (omega arith) (λ j l. h (suc j) (omega arith)) o)

one_tree : (ts : List (BTree (List ℤ))) (ms : List Bool) (vs : List (List ℤ)) → AreTreesOf ts ms vs 1 → let t = first_or (Leaf []) ts in (column is_leaf t ≡ ms) × (column top t ≡ vs)
one_tree [] ms vs f = let n = f.many in absurd (omega arith)
one_tree (t ∷ []) ms vs f = (sym (append-nil (column is_leaf t)) ∙ f.marks, sym (append-nil (column top t)) ∙ f.values)
one_tree (t ∷ u ∷ ts) ms vs f = let n = f.many in absurd (omega arith)

-- nodes of which the last closes the tree are those of a tree
pub columns-tree_from : (ms : List Bool) (vs : List (List ℤ)) → length ms ≡ length vs → IsWhole (map arity ms) → let t = tree_from ms vs in (column is_leaf t ≡ ms) × (column top t ≡ vs)
columns-tree_from ms vs e w = one_tree (trees_from ms vs) ms vs (grows ms vs 1 e w.first w.closed)

-- so the tree from such marks and elements has them, and no other tree has
module _ (ms : List Bool) (xs : Elements) (t : TypedTree) (is : t ≡ (let u : TypedTree = record { ty = xs.ty; tree = tree_from ms xs.items } in u)) where
  pub IsTreeOf-tree_from : length ms ≡ length xs.items → IsWhole (map arity ms) → IsTreeOf ms xs t
  IsTreeOf-tree_from e w =
      let columns = columns-tree_from ms xs.items e w in
      record {
        ty = ap (λ u. u.ty) is;
        marks = ap (λ u. column is_leaf u.tree) is ∙ columns.0;
        values = ap (λ u. column top u.tree) is ∙ columns.1;
      }

  pub IsOnlyTreeOf-tree_from : IsOnlyTreeOf ms xs t
  IsOnlyTreeOf-tree_from u of =
      let f : BTree (List ℤ) → TypedTree = λ v. record { ty = u.ty; tree = v } in
      let g : List Width → TypedTree = λ ws. record { ty = ws; tree = tree_from ms xs.items } in
      ap f (sym (tree_from-columns u.tree) ∙ ap (λ x. tree_from x (column top u.tree)) of.marks ∙ ap (tree_from ms) of.values)
      ∙ ap g of.ty ∙ sym is
