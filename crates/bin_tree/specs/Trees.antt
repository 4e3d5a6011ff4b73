-- Binary trees: their plain data, and which tree columns stand for.
use Rattle.std.specs.Prelude.{◌≡◌, ℤ, Bool, List}
use Rattle.op_laws.specs.declared.width.Width.{Width}
use Rattle.op_laws.specs.Elements.{Elements}
pub use Rattle.op_laws.specs.Trees.{BTree, Leaf, Node, size, is_leaf, top, sub_at, column, marks_of, values_of, Each}

-- a binary tree of elements of one type
pub record TypedTree : Type 0 where
  pub ty : List Width
  pub tree : BTree (List ℤ)

-- the tree has these marks and these elements in preorder
pub record IsTreeOf (ms : List Bool) (xs : Elements) (t : TypedTree) : Type 0 where
  pub ty : t.ty ≡ xs.ty
  pub marks : marks_of t.tree ≡ ms
  pub values : values_of t.tree ≡ xs.items

-- no other tree has these marks and these elements in preorder
abbrev pub IsOnlyTreeOf : List Bool → Elements → TypedTree → Type 0
IsOnlyTreeOf ms xs t = (u : TypedTree) → IsTreeOf ms xs u → u ≡ t
