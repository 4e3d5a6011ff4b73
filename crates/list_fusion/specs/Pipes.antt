-- What a pipe is seen as, and its list.
use Rattle.std.specs.Prelude.{◌≡◌, ℕ, ℤ, pos, Bool, true, if◌then◌else◌, List, [], ◌∷◌, ◌++◌, reverse, slice_range, refl}
use Rattle.std.specs.Int.{int_wrap}
use Rattle.op_laws.specs.declared.width.Width.{Width}
use Rattle.op_laws.specs.declared.width.Width.TheVariants.{W64}
use Rattle.op_laws.specs.Elements.{Elements}
use Rattle.scalar_expr.specs.declared.pair.Pair.TheVariants.{Mul, Less}
use Rattle.scalar_expr.specs.Expr.{lit, part, two}
use Rattle.list_fusion.specs.declared.stage.Stage.{Stage}
use Rattle.list_fusion.specs.declared.stage.Stage.TheVariants.{Map, Keep}
use Rattle.op_laws.specs.Lists.{iota}
use Rattle.list_fusion.specs.Stages.{staged, type_along}

-- the head's elements, the stages that they go through in order, and whether the whole is turned round
pub record Flow : Type 0 where
  pub head : Elements
  pub stages : List Stage
  pub reversed : Bool

abbrev pub turned : {X : Type 0} → Bool → List X → List X
turned reversed xs = if reversed then reverse xs else xs

-- the pipe's list
abbrev pub elements : Flow → List (List ℤ)
elements p = turned p.reversed (staged p.stages p.head.items)

-- the type of its elements
abbrev pub type_of : Flow → List Width
type_of p = type_along p.stages p.head.ty

abbrev pub with_stage : Flow → Stage → Flow
with_stage p s = record p { stages = p.stages ++ s ∷ [] }

-- the head's elements in the pipe's direction
abbrev pub places : Flow → List (List ℤ)
places p = turned p.reversed p.head.items

-- a block: what the stages make of these places of the head
abbrev pub block_of : Flow → ℕ → ℕ → List (List ℤ)
block_of p from to = staged p.stages (slice_range (places p) from to)

-- worked rows

-- the squares of 0 to 4 that are over 3, turned round
abbrev squares : Flow
squares = record {
  head = record { ty = W64 ∷ []; items = iota 5 };
  stages =
      Map (record { scalars = two Mul (part 0) (part 0) ∷ []; takes = W64 ∷ []; gives = W64 ∷ [] })
      ∷ Keep (record { scalars = two Less (lit (pos 3)) (part 0) ∷ []; takes = W64 ∷ []; gives = W64 ∷ [] }) ∷ [];
  reversed = true;
}

whole : elements squares ≡ (pos 16 ∷ []) ∷ (pos 9 ∷ []) ∷ (pos 4 ∷ []) ∷ []
unfolding int_wrap
whole = refl

first_two_places : block_of squares 0 2 ≡ (pos 16 ∷ []) ∷ (pos 9 ∷ []) ∷ []
unfolding int_wrap
first_two_places = refl

last_three_places : block_of squares 2 5 ≡ (pos 4 ∷ []) ∷ []
unfolding int_wrap
last_three_places = refl
