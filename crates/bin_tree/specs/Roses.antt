-- Rose trees: their plain data, and which rose tree columns stand for.
use Rattle.std.specs.Prelude.{◌≡◌, ℕ, ℤ, List}
use Rattle.op_laws.specs.declared.width.Width.{Width}
use Rattle.op_laws.specs.Elements.{Elements}
pub use Rattle.op_laws.specs.Roses.{Forest, Bare, Plant, RoseTree, trees_of, children_of, degree, forest_size, size, planted_at, sub_at, forest_column, column, counts_of, values_of, EachPlanted, Each}

-- a rose tree of elements of one type
pub record TypedRose : Type 0 where
  pub ty : List Width
  pub rose : RoseTree (List ℤ)

-- the rose tree has these numbers of children and these elements in preorder
pub record IsRoseOf (cs : List ℕ) (xs : Elements) (r : TypedRose) : Type 0 where
  pub ty : r.ty ≡ xs.ty
  pub counts : counts_of r.rose ≡ cs
  pub values : values_of r.rose ≡ xs.items

-- no other rose tree has these numbers of children and these elements in preorder
abbrev pub IsOnlyRoseOf : List ℕ → Elements → TypedRose → Type 0
IsOnlyRoseOf cs xs r = (s : TypedRose) → IsRoseOf cs xs s → s ≡ r
