-- Rose trees by their children.
use Rattle.std.proofs.Common.{◌≡◌, List, ◌∷◌, ◌++◌, map, refl, ap}
use Rattle.std.specs.List.{flat_map}
use Rattle.op_laws.specs.Roses.{Forest, Bare, Plant, RoseTree, trees_of, forest_column, column}
use Rattle.op_laws.specs.RoseFolds.{fold_by, folds_by, down_by, downs_by}
use Rattle.op_laws.specs.RoseSkeletons.{planted, forest_put_up, put_up, forest_put_down, put_down}
use Rattle.op_laws.specs.Children.{IsByChildren}

module _ {A : Type 0} where
  planted_trees : (f : Forest A) → planted (trees_of f) ≡ f
  planted_trees Bare = refl
  planted_trees (Plant a below after) = ap (Plant a below) (planted_trees after)

  column_trees : {X : Type 0} (g : RoseTree A → X) (f : Forest A) → forest_column g f ≡ flat_map (column g) (trees_of f)
  column_trees g Bare = refl
  column_trees g (Plant a below after) = ap (λ xs. g (record { value = a; below = below }) ∷ (forest_column g below ++ xs)) (column_trees g after)

  folds_trees : {X : Type 0} (node : A → List X → X) (f : Forest A) → folds_by node f ≡ map (fold_by node) (trees_of f)
  folds_trees node Bare = refl
  folds_trees node (Plant a below after) = ap (λ xs. node a (folds_by node below) ∷ xs) (folds_trees node after)

  downs_trees : {X : Type 0} (step : X → A → X) (c : X) (f : Forest A) → downs_by step c f ≡ flat_map (down_by step c) (trees_of f)
  downs_trees step c Bare = refl
  downs_trees step c (Plant a below after) = ap (λ xs. c ∷ (downs_by step (step c a) below ++ xs)) (downs_trees step c after)

  up_trees : {X : Type 0} (node : A → List X → X) (f : Forest A) → forest_put_up node f ≡ planted (map (put_up node) (trees_of f))
  up_trees node Bare = refl
  up_trees node (Plant a below after) = ap (Plant (node a (folds_by node below)) (forest_put_up node below)) (up_trees node after)

  down_trees : {X : Type 0} (step : X → A → X) (c : X) (f : Forest A) → forest_put_down step c f ≡ planted (map (put_down step c) (trees_of f))
  down_trees step c Bare = refl
  down_trees step c (Plant a below after) = ap (Plant c (forest_put_down step (step c a) below)) (down_trees step c after)

  pub by_children : {X : Type 0} (r : RoseTree A) (node : A → List X → X) (step : X → A → X) (c : X) → IsByChildren r node step c
  by_children r node step c = record {
    tree = ap (λ f. record { value = r.value; below = f }) (planted_trees r.below);
    fold = ap (node r.value) (folds_trees node r.below);
    values = ap (λ xs. r.value ∷ xs) (column_trees (λ s. s.value) r.below);
    comes_down = ap (λ xs. c ∷ xs) (downs_trees step (step c r.value) r.below);
    put_up = ap (λ f. record { value = fold_by node r; below = f }) (up_trees node r.below);
    put_down = ap (λ f. record { value = c; below = f }) (down_trees step (step c r.value) r.below);
  }
