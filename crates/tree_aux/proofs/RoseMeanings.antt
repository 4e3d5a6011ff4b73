-- Folds of rose trees are what their definitions say.
use Rattle.std.proofs.Common.{◌≡◌, ℤ, pos, ◌+ℤ◌, ◌*ℤ◌, List, [], ◌∷◌, Option, Some, None, refl, ap, sym, ◌∙◌, arith}
use Rattle.std.specs.List.{fold}
use Rattle.std.specs.Int.{w64, int_wrap, int_max}
use Rattle.std.proofs.lemmas.Int.{ints, clamps, int_wrap-mul_right, int_wrap-add_left, int_wrap_fits}
use Rattle.op_laws.specs.Roses.{Forest, Bare, Plant, RoseTree}
use Rattle.op_laws.specs.RoseFolds.{folds_by, fold_forest, fold_rose}
use Rattle.op_catalog.specs.Numbers.{number_of}
use Rattle.op_catalog.specs.Sums.{sum_of}
use Rattle.op_catalog.specs.Rings.{*ℤ-+ℤ}
use Rattle.tree_aux.specs.SumTrees.{rose_sum_up, rose_sum}
use Rattle.tree_aux.specs.BoundTrees.{of_both, or_chosen, rose_bound_up, rose_bound}
use Rattle.tree_aux.specs.BoundTreeLaws.{IsChoice, max_choice}
use Rattle.tree_aux.specs.LongPaths.{longer, rose_heavy_up, rose_heavy}
use Rattle.tree_aux.specs.WordTrees.{weighted, ring_up, rose_ring}
use Rattle.op_catalog.specs.WordLaws.{FitsSigned-word}
use Rattle.tree_aux.specs.WordTreeLaws.{same_three, wrap_wrap, naught_word}

-- ---- sums

sums : (f : Forest (List ℤ)) → fold_forest rose_sum_up (pos 0) f ≡ sum_of (folds_by (λ a vs. number_of a +ℤ sum_of vs) f)
sums Bare = refl
sums (Plant a below after) = let x = sums below in let y = sums after in omega (arith, ints)

pub rose_sum_is : (r : RoseTree (List ℤ)) → fold_rose rose_sum_up (pos 0) r ≡ rose_sum r
rose_sum_is r = let x = sums r.below in omega (arith, ints)

-- ---- the least and the greatest, and paths: what a forest has is chosen of what its trees have

module _ (choose : ℤ → ℤ → ℤ) (choice : IsChoice choose) where
  -- what is chosen of numbers, if there are some
  abbrev pub chosen : List ℤ → Option ℤ
  chosen [] = None
  chosen (v ∷ vs) = Some (or_chosen choose v (chosen vs))

  or_assoc : (c v : ℤ) (o : Option ℤ) → or_chosen choose (choose c v) o ≡ choose c (or_chosen choose v o)
  or_assoc c v None = refl
  or_assoc c v (Some d) = choice.associative c v d

  pub fold-chosen : (c : ℤ) (vs : List ℤ) → fold choose c vs ≡ or_chosen choose c (chosen vs)
  fold-chosen c [] = refl
  fold-chosen c (v ∷ vs) = fold-chosen (choose c v) vs ∙ or_assoc c v (chosen vs)

  of_three : (x : Option ℤ) (a : ℤ) (y : Option ℤ) → of_both choose (of_both choose x (Some a)) y ≡ Some (or_chosen choose (or_chosen choose a x) y)
  of_three None a None = refl
  of_three None a (Some y) = refl
  of_three (Some x) a None = ap Some (choice.commutative x a)
  of_three (Some x) a (Some y) = ap (λ z. Some (choose z y)) (choice.commutative x a)

  bounds : (f : Forest (List ℤ)) → fold_forest (rose_bound_up choose) None f ≡ chosen (folds_by (λ a vs. fold choose (number_of a) vs) f)
  bounds Bare = refl
  bounds (Plant a below after) =
      let ends = folds_by (λ (a : List ℤ) (vs : List ℤ). fold choose (number_of a) vs) below in
      let later = folds_by (λ (a : List ℤ) (vs : List ℤ). fold choose (number_of a) vs) after in
      ap (λ (x : Option ℤ). of_both choose (of_both choose x (Some (number_of a))) (fold_forest (rose_bound_up choose) None after)) (bounds below)
      ∙ ap (λ (y : Option ℤ). of_both choose (of_both choose (chosen ends) (Some (number_of a))) y) (bounds after)
      ∙ of_three (chosen ends) (number_of a) (chosen later)
      ∙ ap (λ (z : ℤ). Some (or_chosen choose z (chosen later))) (sym (fold-chosen (number_of a) ends))

  pub rose_bound_is : (r : RoseTree (List ℤ)) → fold_rose (rose_bound_up choose) None r ≡ Some (rose_bound choose r)
  rose_bound_is r =
      let ends = folds_by (λ (a : List ℤ) (vs : List ℤ). fold choose (number_of a) vs) r.below in
      ap (λ (x : Option ℤ). of_both choose (of_both choose x (Some (number_of r.value))) None) (bounds r.below)
      ∙ of_three (chosen ends) (number_of r.value) None
      ∙ ap Some (sym (fold-chosen (number_of r.value) ends))

longest : (a : ℤ) (x y : Option ℤ) → longer a x (longer (pos 0) y a) ≡ or_chosen int_max (a +ℤ or_chosen int_max (pos 0) x) y
longest a None None = omega (arith, ints, clamps)
longest a None (Some y) = omega (arith, ints, clamps)
longest a (Some x) None = omega (arith, ints, clamps)
longest a (Some x) (Some y) = omega (arith, ints, clamps)

paths : (f : Forest (List ℤ)) → fold_forest rose_heavy_up None f ≡ chosen int_max max_choice (folds_by (λ a vs. number_of a +ℤ fold int_max (pos 0) vs) f)
paths Bare = refl
paths (Plant a below after) =
    let ends = folds_by (λ (a : List ℤ) (vs : List ℤ). number_of a +ℤ fold int_max (pos 0) vs) below in
    let later = folds_by (λ (a : List ℤ) (vs : List ℤ). number_of a +ℤ fold int_max (pos 0) vs) after in
    ap (λ (x : Option ℤ). rose_heavy_up.node x (rose_heavy_up.phi a) (fold_forest rose_heavy_up None after)) (paths below)
    ∙ ap (λ (y : Option ℤ). rose_heavy_up.node (chosen int_max max_choice ends) (rose_heavy_up.phi a) y) (paths after)
    ∙ ap Some (longest (number_of a) (chosen int_max max_choice ends) (chosen int_max max_choice later)
    ∙ ap (λ (z : ℤ). or_chosen int_max (number_of a +ℤ z) (chosen int_max max_choice later)) (sym (fold-chosen int_max max_choice (pos 0) ends)))

pub rose_heavy_is : (r : RoseTree (List ℤ)) → fold_rose rose_heavy_up None r ≡ Some (rose_heavy r)
rose_heavy_is r =
    let ends = folds_by (λ (a : List ℤ) (vs : List ℤ). number_of a +ℤ fold int_max (pos 0) vs) r.below in
    ap (λ (x : Option ℤ). rose_heavy_up.node x (rose_heavy_up.phi r.value) None) (paths r.below)
    ∙ ap Some (longest (number_of r.value) (chosen int_max max_choice ends) None ∙ ap (λ (z : ℤ). number_of r.value +ℤ z) (sym (fold-chosen int_max max_choice (pos 0) ends)))

-- ---- sums of products

once : (y : ℤ) → int_wrap w64 (pos 1 *ℤ int_wrap w64 y) ≡ int_wrap w64 y
once y = ap (int_wrap w64) (one_of (int_wrap w64 y)) ∙ wrap_wrap y
  where
    one_of : (z : ℤ) → pos 1 *ℤ z ≡ z
    one_of z = omega (arith, ints)

gathered : (a x y : ℤ) → ((a *ℤ x) +ℤ y) +ℤ a ≡ (a *ℤ (pos 1 +ℤ x)) +ℤ y
gathered a x y = let e = *ℤ-+ℤ a (pos 1) x in let f = one_of a in omega (arith, ints)
  where
    one_of : (z : ℤ) → z *ℤ pos 1 ≡ z
    one_of z = omega (arith, ints)

ring_node : (a x y : ℤ) → weighted a (int_wrap w64 x) (pos 1) (int_wrap w64 y) a ≡ int_wrap w64 (int_wrap w64 (a *ℤ (pos 1 +ℤ x)) +ℤ y)
ring_node a x y =
    same_three (a *ℤ int_wrap w64 x) (a *ℤ x) (pos 1 *ℤ int_wrap w64 y) y a a (int_wrap-mul_right w64 a x) (once y) refl
    ∙ ap (int_wrap w64) (gathered a x y)
    ∙ sym (int_wrap-add_left w64 (a *ℤ (pos 1 +ℤ x)) y)

naught_wrapped : pos 0 ≡ int_wrap w64 (pos 0)
naught_wrapped = sym (int_wrap_fits w64 (pos 0) (FitsSigned-word (pos 0) naught_word))

products : (f : Forest (List ℤ)) → fold_forest ring_up (pos 0) f ≡ int_wrap w64 (sum_of (folds_by (λ a vs. int_wrap w64 (number_of a *ℤ (pos 1 +ℤ sum_of vs))) f))
products Bare = naught_wrapped
products (Plant a below after) =
    let ends = sum_of (folds_by (λ (a : List ℤ) (vs : List ℤ). int_wrap w64 (number_of a *ℤ (pos 1 +ℤ sum_of vs))) below) in
    let later = sum_of (folds_by (λ (a : List ℤ) (vs : List ℤ). int_wrap w64 (number_of a *ℤ (pos 1 +ℤ sum_of vs))) after) in
    ap (λ (x : ℤ). weighted (number_of a) x (pos 1) (fold_forest ring_up (pos 0) after) (number_of a)) (products below)
    ∙ ap (λ (y : ℤ). weighted (number_of a) (int_wrap w64 ends) (pos 1) y (number_of a)) (products after)
    ∙ ring_node (number_of a) ends later

no_more : (z : ℤ) → int_wrap w64 z +ℤ pos 0 ≡ int_wrap w64 z
no_more z = plain (int_wrap w64 z)
  where
    plain : (y : ℤ) → y +ℤ pos 0 ≡ y
    plain y = omega (arith, ints)

pub rose_ring_is : (r : RoseTree (List ℤ)) → fold_rose ring_up (pos 0) r ≡ rose_ring r
rose_ring_is r =
    let a = number_of r.value in
    let ends = sum_of (folds_by (λ (a : List ℤ) (vs : List ℤ). int_wrap w64 (number_of a *ℤ (pos 1 +ℤ sum_of vs))) r.below) in
    ap (λ (x : ℤ). weighted (number_of r.value) x (pos 1) (pos 0) (number_of r.value)) (products r.below)
    ∙ ap (λ (y : ℤ). weighted (number_of r.value) (int_wrap w64 ends) (pos 1) y (number_of r.value)) naught_wrapped
    ∙ ring_node (number_of r.value) ends (pos 0)
    ∙ ap (int_wrap w64) (no_more (number_of r.value *ℤ (pos 1 +ℤ ends)))
    ∙ wrap_wrap (number_of r.value *ℤ (pos 1 +ℤ ends))
