-- What stages make of a list.
use Rattle.std.specs.Prelude.{◌≡◌, ℤ, Bool, List, [], ◌∷◌, map, length}
use Rattle.std.specs.List.{filter}
use Rattle.op_laws.specs.declared.width.Width.{Width}
use Rattle.op_laws.specs.Lists.{is_true}
use Rattle.scalar_expr.specs.Expr.{Expr}
use Rattle.scalar_expr.specs.Values.{values_of}
use Rattle.list_fusion.specs.declared.stage.Stage.{Stage}
use Rattle.list_fusion.specs.declared.stage.Stage.TheVariants.{Map, Keep}

-- the function isn't 0 on the element
abbrev pub is_kept : List Expr → List ℤ → Bool
is_kept scalars e = is_true (values_of scalars e)

-- one stage
abbrev pub applied : Stage → List (List ℤ) → List (List ℤ)
applied (Map f) es = map (values_of f.scalars) es
applied (Keep f) es = filter (is_kept f.scalars) es

-- all stages, in order
abbrev pub staged : List Stage → List (List ℤ) → List (List ℤ)
staged [] es = es
staged (s ∷ ss) es = staged ss (applied s es)

-- the type of the elements that the stage's function takes
abbrev pub taken_by : Stage → List Width
taken_by (Map f) = f.takes
taken_by (Keep f) = f.takes

-- the type of the elements after the stage
abbrev pub type_after : Stage → List Width → List Width
type_after (Map f) ty = f.gives
type_after (Keep f) ty = ty

abbrev pub type_along : List Stage → List Width → List Width
type_along [] ty = ty
type_along (s ∷ ss) ty = type_along ss (type_after s ty)

-- the stage may follow elements of this type
abbrev pub Takes : Stage → List Width → Type 0
Takes (Map f) ty = f.takes ≡ ty
Takes (Keep f) ty = (f.takes ≡ ty) × (length f.gives ≡ 1)

abbrev pub AreTyped : List Stage → List Width → Type 0
AreTyped [] ty = Unit {0}
AreTyped (s ∷ ss) ty = Takes s ty × AreTyped ss (type_after s ty)
