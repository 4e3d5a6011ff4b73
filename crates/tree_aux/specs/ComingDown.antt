-- What the values that come down a tree are, once finished.
use Rattle.std.specs.Prelude.{◌≡◌, ℤ, List, map}
use Rattle.op_laws.specs.declared.width.Width.{Width}
use Rattle.op_laws.specs.declared.width.Width.TheVariants.{W64}
use Rattle.op_laws.specs.Widths.{FitsWidth}
use Rattle.op_laws.specs.Admits.{Admits}
use Rattle.op_laws.specs.Elements.{singles}
use Rattle.op_laws.specs.Trees.{BTree, Each}
use Rattle.op_laws.specs.TreeFolds.{Downward, values_down, down_by}
use Rattle.op_laws.specs.Roses as rose
use Rattle.op_laws.specs.RoseFolds as rose_folds

-- for each tree the finished values in preorder are: c at the root, and what `left` and `right` make of a node's own for its children
pub record ComesDown {V D : Type 0} (takes : List Width → Type 0) (finished : V → List ℤ) (k : Downward (List ℤ) V D) (left right : ℤ → List ℤ → ℤ) : Type 0 where
  pub whole : (ty : List Width) (t : BTree (List ℤ)) (c : ℤ) → takes ty → FitsWidth W64 c → Each (Admits ty) t
      → map finished (values_down k (k.start c) t) ≡ singles (down_by left right c t)

-- for each rose tree: c at the root, and what `step` makes of a node's own for its children
pub record ComesDownRose {V D : Type 0} (takes : List Width → Type 0) (finished : V → List ℤ) (k : Downward (List ℤ) V D) (step : ℤ → List ℤ → ℤ) : Type 0 where
  pub whole : (ty : List Width) (r : rose.RoseTree (List ℤ)) (c : ℤ) → takes ty → FitsWidth W64 c → rose.Each (Admits ty) r
      → map finished (rose_folds.rose_values_down k (k.start c) r) ≡ singles (rose_folds.down_by step c r)
