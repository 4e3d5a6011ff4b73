-- Which lawful operator a name and a type of element lead to.
use Rattle.std.specs.Prelude.{◌≡◌, ℤ, List, Ok, map}
use Rattle.op_laws.specs.declared.width.Width.{Width}
use Rattle.op_laws.specs.declared.width.Width.TheVariants.{W64}
use Rattle.op_laws.specs.Widths.{FitsWidth}
use Rattle.op_laws.specs.Admits.{Admits}
use Rattle.op_laws.specs.Elements.{singles}
use Rattle.op_laws.specs.Trees.{BTree, Each}
use Rattle.op_laws.specs.TreeFolds.{Upward, Downward, fold_tree, values_down, down_by}
use Rattle.op_laws.specs.Roses as roses
use Rattle.op_laws.specs.RoseFolds as rose_folds
use Rattle.tree_names.specs.declared.tree_name.TreeName.{TreeName}
use Rattle.tree_names.specs.declared.down_name.DownName.{DownName}
use Rattle.tree_names.specs.declared.rose_name.RoseName.{RoseName}
use Rattle.tree_names.specs.declared.rose_down_name.RoseDownName.{RoseDownName}
use Rattle.tree_names.specs.Names.{tree_typed, down_typed, rose_typed, rose_down_typed}
use Rattle.tree_catalog.specs.Meanings.{tree_value, left_step, right_step, rose_value, child_step}

-- an operator with these members is the one of the name at the type: its finished fold is the name's meaning
pub record IsTreeOperatorOf {V G : Type 0} (takes : List Width → Type 0) (gives : List Width → List Width) (finished : V → List ℤ) (k : Upward (List ℤ) V G) (name : TreeName) (ty : List Width) : Type 0 where
  pub taken : takes ty
  pub typed : tree_typed name ty ≡ Ok (gives ty)
  pub reduces : (t : BTree (List ℤ)) → Each (Admits ty) t → finished (fold_tree k t) ≡ tree_value name t

-- the finished values that it brings down are those of the name's steps
pub record IsDownOperatorOf {V D : Type 0} (takes : List Width → Type 0) (gives : List Width → List Width) (finished : V → List ℤ) (k : Downward (List ℤ) V D) (name : DownName) (ty : List Width) : Type 0 where
  pub taken : takes ty
  pub typed : down_typed name ty ≡ Ok (gives ty)
  pub comes : (t : BTree (List ℤ)) (c : ℤ) → FitsWidth W64 c → Each (Admits ty) t → map finished (values_down k (k.start c) t) ≡ singles (down_by (left_step name) (right_step name) c t)

-- of a rose tree
pub record IsRoseOperatorOf {V G : Type 0} (takes : List Width → Type 0) (gives : List Width → List Width) (finished : V → List ℤ) (nothing : V) (k : Upward (List ℤ) V G) (name : RoseName) (ty : List Width) : Type 0 where
  pub taken : takes ty
  pub typed : rose_typed name ty ≡ Ok (gives ty)
  pub reduces : (r : roses.RoseTree (List ℤ)) → roses.Each (Admits ty) r → finished (rose_folds.fold_rose k nothing r) ≡ rose_value name r

pub record IsRoseDownOperatorOf {V D : Type 0} (takes : List Width → Type 0) (gives : List Width → List Width) (finished : V → List ℤ) (k : Downward (List ℤ) V D) (name : RoseDownName) (ty : List Width) : Type 0 where
  pub taken : takes ty
  pub typed : rose_down_typed name ty ≡ Ok (gives ty)
  pub comes : (r : roses.RoseTree (List ℤ)) (c : ℤ) → FitsWidth W64 c → roses.Each (Admits ty) r → map finished (rose_folds.rose_values_down k (k.start c) r) ≡ singles (rose_folds.down_by (child_step name) c r)
