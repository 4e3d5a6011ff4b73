-- The skeletons on trees of elements, by the columns of a tree.
use Rattle.std.specs.Prelude.{ℤ, List, map}
use Rattle.op_laws.specs.Trees.{BTree, column, values_of}
use Rattle.op_laws.specs.TreeFolds.{fold_by, down_by}
use Rattle.op_laws.specs.TreeSkeletons.{mapped, put_up, put_down, KeepsShape}
use Rattle.op_laws.specs.Roses.{RoseTree}
use Rattle.op_laws.specs.Children.{IsByChildren}

-- each skeleton keeps the marks, and its values are those that are said by lists
pub record EachKeepsShape : Type 0 where
  pub up : (leaf : List ℤ → List ℤ) (node : List ℤ → List ℤ → List ℤ → List ℤ) (t : BTree (List ℤ)) → KeepsShape t (put_up leaf node t) (column (fold_by leaf node) t)
  pub down : (left right : List ℤ → List ℤ → List ℤ) (c : List ℤ) (t : BTree (List ℤ)) → KeepsShape t (put_down left right c t) (down_by left right c t)
  pub each : (f : List ℤ → List ℤ) (t : BTree (List ℤ)) → KeepsShape t (mapped f t) (map f (values_of t))

-- each rose tree of elements is a value with a list of rose trees, and what is said of it goes by these
abbrev pub EachIsByChildren : Type 0
EachIsByChildren = (r : RoseTree (List ℤ)) (node : List ℤ → List (List ℤ) → List ℤ) (step : List ℤ → List ℤ → List ℤ) (c : List ℤ) → IsByChildren r node step c
