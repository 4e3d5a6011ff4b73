-- Rose trees by their children: a value with a list of rose trees.
use Rattle.std.specs.Prelude.{◌≡◌, List, ◌∷◌, map}
use Rattle.std.specs.List.{flat_map}
use Rattle.op_laws.specs.Roses.{RoseTree, children_of, values_of}
use Rattle.op_laws.specs.RoseFolds.{fold_by, down_by}
use Rattle.op_laws.specs.RoseSkeletons.{rose_with, put_up, put_down}

-- what is said of a tree by its root and its children
pub record IsByChildren {A X : Type 0} (r : RoseTree A) (node : A → List X → X) (step : X → A → X) (c : X) : Type 0 where
  pub tree : rose_with r.value (children_of r) ≡ r
  pub fold : fold_by node r ≡ node r.value (map (fold_by node) (children_of r))
  pub values : values_of r ≡ r.value ∷ flat_map values_of (children_of r)
  pub comes_down : down_by step c r ≡ c ∷ flat_map (down_by step (step c r.value)) (children_of r)
  pub put_up : put_up node r ≡ rose_with (fold_by node r) (map (put_up node) (children_of r))
  pub put_down : put_down step c r ≡ rose_with c (map (put_down step (step c r.value)) (children_of r))
