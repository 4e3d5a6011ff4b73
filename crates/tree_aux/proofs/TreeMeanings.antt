-- Folds of trees are what their definitions say, and these are the greatest sums.
use Rattle.std.proofs.Common.{◌≡◌, Bool, true, false, if◌then◌else◌, ℤ, pos, ◌+ℤ◌, ◌*ℤ◌, ◌≤ℤ◌, List, inl, inr, refl, ap, sym, ◌∙◌, subst, arith}
use Rattle.std.specs.Int.{w64, int_wrap, int_max}
use Rattle.std.specs.Ordering.{int_eq}
use Rattle.std.proofs.lemmas.Int.{ints, clamps, int_wrap_fits}
use Rattle.op_laws.specs.Trees.{BTree, Leaf, Node}
use Rattle.op_laws.specs.TreeFolds.{fold_tree}
use Rattle.op_catalog.specs.Numbers.{number_of}
use Rattle.op_catalog.specs.Lines.{line}
use Rattle.op_catalog.specs.WordLaws.{FitsSigned-word}
use Rattle.op_laws.specs.Widths.{FitsWidth}
use Rattle.op_laws.specs.declared.width.Width.TheVariants.{W64}
use Rattle.tree_aux.specs.BoundTreeLaws.{max_choice}
use Rattle.tree_aux.specs.SumTrees.{tree_sum}
use Rattle.tree_aux.specs.declared.expr_op.Arithmetic.TheVariants.{Plus, Times}
use Rattle.tree_aux.specs.LongPaths.{IsGreatestWith, tree_heavy, IsPathSum, tree_best, IsSubtreeSum, subtree_sums, best_up}
use Rattle.tree_aux.specs.WordTrees.{image, worked, arithmetic_of, node_value, tree_expr, expr_up}
use Rattle.tree_aux.specs.WordTreeLaws.{worked_fits}

-- ---- from the root to a leaf

heavy_bound : (t : BTree (List ℤ)) (s : ℤ) → IsPathSum t s → s ≤ℤ tree_heavy t
heavy_bound (Leaf a) s e = omega (arith, ints)
heavy_bound (Node b l r) s (rest, inl p, e) = let h = heavy_bound l rest p in omega (arith, ints, clamps)
heavy_bound (Node b l r) s (rest, inr p, e) = let h = heavy_bound r rest p in omega (arith, ints, clamps)

heavy_reached : (t : BTree (List ℤ)) → IsPathSum t (tree_heavy t)
heavy_reached (Leaf a) = refl
heavy_reached (Node b l r) =
    elim (max_choice.one (tree_heavy l) (tree_heavy r)) as (λ _. IsPathSum (Node b l r) (tree_heavy (Node b l r))) [
      | inl e ↦ (tree_heavy l, inl (heavy_reached l), ap (λ z. z +ℤ number_of b) e)
      | inr e ↦ (tree_heavy r, inr (heavy_reached r), ap (λ z. z +ℤ number_of b) e)
    ]

pub heavy_greatest : (t : BTree (List ℤ)) → IsGreatestWith (IsPathSum t) (tree_heavy t)
heavy_greatest t = record { bound = heavy_bound t; reached = heavy_reached t }

-- ---- whole subtrees

pub best_are : (t : BTree (List ℤ)) → fold_tree best_up t ≡ subtree_sums (tree_sum t) (tree_best t)
best_are (Leaf a) = refl
best_are (Node b l r) = ap (λ x. best_up.node x (best_up.phi b) (fold_tree best_up r)) (best_are l) ∙ ap (λ y. best_up.node (subtree_sums (tree_sum l) (tree_best l)) (best_up.phi b) y) (best_are r)

best_bound : (t : BTree (List ℤ)) (s : ℤ) → IsSubtreeSum t s → s ≤ℤ tree_best t
best_bound (Leaf a) s e = omega (arith, ints)
best_bound (Node b l r) s (inl e) = omega (arith, ints, clamps)
best_bound (Node b l r) s (inr (inl p)) = let h = best_bound l s p in omega (arith, ints, clamps)
best_bound (Node b l r) s (inr (inr p)) = let h = best_bound r s p in omega (arith, ints, clamps)

best_reached : (t : BTree (List ℤ)) → IsSubtreeSum t (tree_best t)
best_reached (Leaf a) = refl
best_reached (Node b l r) =
    elim (max_choice.one (int_max (tree_best l) (tree_best r)) (tree_sum (Node b l r))) as (λ _. IsSubtreeSum (Node b l r) (tree_best (Node b l r))) [
      | inl e ↦ elim (max_choice.one (tree_best l) (tree_best r)) as (λ _. IsSubtreeSum (Node b l r) (tree_best (Node b l r))) [
        | inl f ↦ inr (inl (subst (IsSubtreeSum l) (sym (e ∙ f)) (best_reached l)))
        | inr f ↦ inr (inr (subst (IsSubtreeSum r) (sym (e ∙ f)) (best_reached r)))
      ]
      | inr e ↦ inl e
    ]

pub best_greatest : (t : BTree (List ℤ)) → IsGreatestWith (IsSubtreeSum t) (tree_best t)
best_greatest t = record { bound = best_bound t; reached = best_reached t }

-- ---- expressions

as_it_is : (z : ℤ) → (pos 1 *ℤ z) +ℤ pos 0 ≡ z
as_it_is z = omega (arith, ints)

image_unit : (z : ℤ) → FitsWidth W64 z → image (line (pos 1) (pos 0)) z ≡ z
image_unit z f = ap (int_wrap w64) (as_it_is z) ∙ int_wrap_fits w64 z (FitsSigned-word z f)

worked_if : (t : Bool) (l r : ℤ) → worked (if t then Plus else Times) l r ≡ (if t then int_wrap w64 (l +ℤ r) else int_wrap w64 (l *ℤ r))
worked_if true l r = refl
worked_if false l r = refl

pub expr_are : (t : BTree (List ℤ)) → fold_tree expr_up t ≡ tree_expr t
expr_are (Leaf a) = refl
expr_are (Node b l r) =
    let x = fold_tree expr_up l in let y = fold_tree expr_up r in let n = number_of b in
    image_unit (worked (arithmetic_of (number_of b)) (fold_tree expr_up l) (fold_tree expr_up r)) (worked_fits (arithmetic_of (number_of b)) (fold_tree expr_up l) (fold_tree expr_up r))
    ∙ worked_if (int_eq (number_of b) (pos 0)) (fold_tree expr_up l) (fold_tree expr_up r)
    ∙ ap (λ (z : ℤ). node_value z (number_of b) (fold_tree expr_up r)) (expr_are l)
    ∙ ap (λ (z : ℤ). node_value (tree_expr l) (number_of b) z) (expr_are r)
