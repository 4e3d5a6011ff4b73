-- How a list keeps its numbers: words on the layout, which no public clause cites.
use Rattle.std.specs.Prelude.{Bool, true, false, ℕ, ◌+◌, ◌<◌, ◌≤◌, ◌^◌, ◌≡◌, ℤ, pos, List, [], ◌∷◌, length, map, get_or}
use Rattle.std.specs.List.{All}
use Rattle.std.specs.Vec.{vec_capacity}
use Rattle.op_laws.specs.declared.width.Width.{Width}
use Rattle.op_laws.specs.declared.width.Width.TheVariants.{W64, W96, W128}
use Rattle.op_laws.specs.Widths.{FitsWidth}
use Rattle.op_laws.specs.Admits.{Admits}
use Rattle.op_laws.specs.Rows.{rows, AreEven}
use Rattle.op_laws.specs.declared.column.Column.{Column}
use Rattle.op_laws.specs.declared.column.Column.TheVariants.{Narrow, Wide}
use Rattle.op_laws.specs.declared.columns.Columns.{Columns}
use Rattle.op_laws.specs.declared.columns.Columns.TheVariants.{One, Two, Three, Four}

-- the numbers of a column
abbrev pub numbers_of : Column → List ℤ
numbers_of (Narrow v) = v.items
numbers_of (Wide v) = v.items

-- how many numbers a column has memory for
abbrev pub room_of : Column → ℕ
room_of (Narrow v) = vec_capacity v
room_of (Wide v) = vec_capacity v

-- a column has memory for n numbers more
abbrev pub HasRoom : ℕ → Column → Type 0
HasRoom n a = length (numbers_of a) + n ≤ room_of a

-- a column keeps 128-bit numbers
abbrev pub is_wide : Column → Bool
is_wide (Narrow _) = false
is_wide (Wide _) = true

-- a width is kept in 128-bit numbers
abbrev pub wants_wide : Width → Bool
wants_wide W64 = false
wants_wide W96 = true
wants_wide W128 = true

-- a column can keep the number
abbrev pub CanKeep : Column → ℤ → Type 0
CanKeep (Narrow _) x = FitsWidth W64 x
CanKeep (Wide _) x = Unit {0}

-- the columns as a list
abbrev pub columns_list : Columns → List Column
columns_list (One a) = a ∷ []
columns_list (Two a b) = a ∷ b ∷ []
columns_list (Three a b c) = a ∷ b ∷ c ∷ []
columns_list (Four a b c d) = a ∷ b ∷ c ∷ d ∷ []

-- the numbers of each column
abbrev pub numbers : Columns → List (List ℤ)
numbers columns = map numbers_of (columns_list columns)

-- what each column keeps
abbrev pub kinds : Columns → List Bool
kinds columns = map is_wide (columns_list columns)

-- each of these columns, the first of which has place k, can keep the number of t at its place
abbrev pub CanKeepFrom : ℕ → List Column → List ℤ → Type 0
CanKeepFrom k [] t = Unit {0}
CanKeepFrom k (a ∷ cs) t = CanKeep a (get_or t k (pos 0)) × CanKeepFrom (k + 1) cs t

-- the columns hold a list of elements of the type
pub record IsTable (ty : List Width) (columns : Columns) : Type 0 where
  pub kept : kinds columns ≡ map wants_wide ty
  pub even : AreEven (numbers columns)
  pub few : length (rows (numbers columns)) < 2 ^ 32
  pub admitted : All (Admits ty) (rows (numbers columns))
