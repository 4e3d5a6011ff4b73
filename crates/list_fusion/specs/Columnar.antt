-- Elements in columns: words on how blocks are computed, which no public clause cites.
use Rattle.std.specs.Prelude.{◌≡◌, ℕ, ◌+◌, ◌-◌, ◌<◌, ◌≤◌, ℤ, pos, Bool, true, not, if◌then◌else◌, List, [], ◌∷◌, length, take, slice_index_or}
use Rattle.std.specs.List.{AllByRecursion, filter, list_all, range_with_len}
use Rattle.std.specs.Ordering.{int_eq}
use Rattle.op_laws.specs.declared.width.Width.{Width}
use Rattle.op_laws.specs.declared.width.Width.TheVariants.{W64}
use Rattle.scalar_expr.specs.Columns.{room_of, is_narrow, is_w64}
use Rattle.scalar_expr.specs.Lanes.{row_at}
use Rattle.list_fusion.specs.declared.stage.Stage.{Stage}
use Rattle.list_fusion.specs.declared.stage.Stage.TheVariants.{Map, Keep}
use Rattle.list_fusion.specs.Stages.{staged, type_along, AreTyped}
use Rattle.list_fusion.specs.Pipes.{Flow, type_of}

-- the first columns, one for each component, begin with so many elements, and these are they
pub record Holds (columns : List (List ℤ)) (width count : ℕ) (es : List (List ℤ)) : Type 0 where
  pub long : length es ≡ count
  pub rows : (j : ℕ) → j < count → row_at (take width columns) j ≡ slice_index_or es j []

-- where element j of the elements at these places stands, which may be turned round
abbrev pub place_of : Bool → ℕ → ℕ → ℕ → ℕ
place_of reversed from to j = if reversed then to - 1 - j else from + j

-- the stage's function goes over columns of 64-bit numbers, and needs at most 8 of them
abbrev pub GoesByColumns : Stage → Type 0
GoesByColumns (Map f) = (is_narrow f.takes f.scalars ≡ true) × (room_of f.scalars ≤ 8)
GoesByColumns (Keep f) = (is_narrow f.takes f.scalars ≡ true) × (room_of f.scalars ≤ 8) × (length f.gives ≡ 1)

-- all stages do, on elements that are numbers of w64, and what comes out is one number of w64
pub record IsColumnar (p : Flow) : Type 0 where
  pub narrow : list_all is_w64 p.head.ty ≡ true
  pub stages : AllByRecursion GoesByColumns p.stages
  pub last : type_of p ≡ W64 ∷ []

-- the places below so many where the flag isn't 0
abbrev pub flagged : List ℤ → ℕ → List ℕ
flagged flags count = filter (λ j. not (int_eq (slice_index_or flags j (pos 0)) (pos 0))) (range_with_len 0 count)

-- elements in columns on their way through stages: what the stages make of them is out
pub record ArePassing (ss : List Stage) (last : List Width) (columns : List (List ℤ)) (count : ℕ) (out : List (List ℤ)) : Type 0 where
  pub ty : List Width
  pub es : List (List ℤ)
  pub typed : AreTyped ss ty
  pub along : type_along ss ty ≡ last
  pub holds : Holds columns (length ty) count es
  pub same : staged ss es ≡ out
