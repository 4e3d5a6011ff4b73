-- Rose trees from their numbers of children and values.
use Rattle.std.proofs.Common.{◌≡◌, ℕ, zero, suc, ◌+◌, ◌-◌, ◌<◌, ◌≤◌, List, [], ◌∷◌, ◌++◌, length, take, refl, sym, ◌∙◌, ap, arith, append_assoc, ℤ}
use Rattle.std.proofs.lemmas.List.{append-nil}
use Rattle.op_laws.specs.declared.width.Width.{Width}
use Rattle.op_laws.specs.Elements.{Elements}
use Rattle.bin_tree.specs.Roses.{Forest, Bare, Plant, RoseTree, TypedRose, IsRoseOf, IsOnlyRoseOf, trees_of, degree, forest_column, counts_of, values_of}
use Rattle.bin_tree.specs.Places.{open_after, IsWhole}
use Rattle.bin_tree.specs.Columns.{first_trees, later_trees, planted, forest_from, first_rose, rose_from}
use Rattle.bin_tree.specs.Codes.{rose_from-columns}
use Rattle.bin_tree.proofs.PlaceLemmas.{open_after-none}

module _ {A : Type 0} where
  length-later_trees : (n : ℕ) (f : Forest A) → length (trees_of (later_trees n f)) ≡ length (trees_of f) - n
  length-later_trees zero f = omega arith
  length-later_trees (suc n) Bare = omega arith
  length-later_trees (suc n) (Plant a below after) = let e = length-later_trees n after in omega arith

  length-first_trees : (n : ℕ) (f : Forest A) → n ≤ length (trees_of f) → length (trees_of (first_trees n f)) ≡ n
  length-first_trees zero f h = refl
  length-first_trees (suc n) Bare h = absurd (omega arith)
  length-first_trees (suc n) (Plant a below after) h = ap suc (length-first_trees n after (omega arith))

  -- the first trees of a forest and then its later ones have its columns
  columns_cut : {X : Type 0} (h : RoseTree A → X) (n : ℕ) (f : Forest A) → forest_column h (first_trees n f) ++ forest_column h (later_trees n f) ≡ forest_column h f
  columns_cut h zero f = refl
  columns_cut h (suc n) Bare = refl
  columns_cut h (suc n) (Plant a below after) =
      ap (λ xs. h (record { value = a; below = below }) ∷ xs)
      (append_assoc (forest_column h below) (forest_column h (first_trees n after)) (forest_column h (later_trees n after))
      ∙ ap (λ xs. forest_column h below ++ xs) (columns_cut h n after))

  -- a forest of so many trees has these numbers of children and values in preorder
  record IsForestOf (f : Forest A) (cs : List ℕ) (vs : List A) (k : ℕ) : Type 0 where
    many : length (trees_of f) ≡ k
    counts : forest_column degree f ≡ cs
    values : forest_column (λ s. s.value) f ≡ vs

  planted-forest : (c : ℕ) (v : A) (f : Forest A) (cs : List ℕ) (vs : List A) (k : ℕ) → IsForestOf f cs vs (k + c) → IsForestOf (planted c v f) (c ∷ cs) (v ∷ vs) (suc k)
  planted-forest c v f cs vs k is =
      let n = is.many in let later = length-later_trees c f in
      record {
        many = omega arith;
        counts = ap (λ m. m ∷ (forest_column degree (first_trees c f) ++ forest_column degree (later_trees c f))) (length-first_trees c f (omega arith))
            ∙ ap (λ xs. c ∷ xs) (columns_cut degree c f ∙ is.counts);
        values = ap (λ xs. v ∷ xs) (columns_cut (λ s. s.value) c f ∙ is.values);
      }

  -- k places are open, the last node closes the last of them and none before it does: then the nodes make k trees
  grows : (cs : List ℕ) (vs : List A) (k : ℕ) → length cs ≡ length vs
      → ((j : ℕ) → j < length cs → 0 < open_after k (take j cs)) → open_after k cs ≡ 0 → IsForestOf (forest_from cs vs) cs vs k
  grows [] [] k e h o = record { many = sym (sym (open_after-none k) ∙ o); counts = refl; values = refl }
  grows [] (v ∷ vs) k e h o = absurd (omega arith)
  grows (c ∷ cs) [] k e h o = absurd (omega arith)
  grows (c ∷ cs) (v ∷ vs) zero e h o = let p = h 0 (omega arith) in absurd (omega arith)
  grows (c ∷ cs) (v ∷ vs) (suc k) e h o = planted-forest c v (forest_from cs vs) cs vs k (grows cs vs (k + c) (omega arith) (λ j l. h (suc j) (omega arith)) o)

one_tree : (f : Forest (List ℤ)) (cs : List ℕ) (vs : List (List ℤ)) → IsForestOf f cs vs 1 → let r = first_rose f in (counts_of r ≡ cs) × (values_of r ≡ vs)
one_tree Bare cs vs is = let n = is.many in absurd (omega arith)
one_tree (Plant a below Bare) cs vs is =
    let r : RoseTree (List ℤ) = record { value = a; below = below } in (
      ap (λ xs. degree r ∷ xs) (sym (append-nil (forest_column degree below))) ∙ is.counts,
      ap (λ xs. a ∷ xs) (sym (append-nil (forest_column (λ s. s.value) below))) ∙ is.values,
    )
one_tree (Plant a below (Plant b under after)) cs vs is = let n = is.many in absurd (omega arith)

-- nodes of which the last closes the tree are those of a rose tree
pub columns-rose_from : (cs : List ℕ) (vs : List (List ℤ)) → length cs ≡ length vs → IsWhole cs → let r = rose_from cs vs in (counts_of r ≡ cs) × (values_of r ≡ vs)
columns-rose_from cs vs e w = one_tree (forest_from cs vs) cs vs (grows cs vs 1 e w.first w.closed)

-- so the rose tree from such numbers and elements has them, and no other rose tree has
module _ (cs : List ℕ) (xs : Elements) where
  pub IsRoseOf-rose_from : length cs ≡ length xs.items → IsWhole cs → IsRoseOf cs xs (record { ty = xs.ty; rose = rose_from cs xs.items })
  IsRoseOf-rose_from e w =
      let columns = columns-rose_from cs xs.items e w in
      record { ty = refl; counts = columns.0; values = columns.1 }

  pub IsOnlyRoseOf-rose_from : IsOnlyRoseOf cs xs (record { ty = xs.ty; rose = rose_from cs xs.items })
  IsOnlyRoseOf-rose_from s of =
      let f : RoseTree (List ℤ) → TypedRose = λ r. record { ty = s.ty; rose = r } in
      let g : List Width → TypedRose = λ ws. record { ty = ws; rose = rose_from cs xs.items } in
      ap f (sym (rose_from-columns s.rose) ∙ ap (λ x. rose_from x (values_of s.rose)) of.counts ∙ ap (rose_from cs) of.values)
      ∙ ap g of.ty
