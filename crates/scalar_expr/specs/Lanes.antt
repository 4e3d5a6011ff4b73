-- Runs of elements in columns.
use Rattle.std.specs.Prelude.{◌≡◌, ℕ, ◌≤◌, ℤ, pos, List, map, length, slice_index_or}
use Rattle.scalar_expr.specs.declared.column.Column.{Column}
use Rattle.scalar_expr.specs.declared.column.Column.TheVariants.{Narrow, Wide}
use Rattle.scalar_expr.specs.declared.narrow.Source.{Source}
use Rattle.scalar_expr.specs.declared.narrow.Source.TheVariants as source
use Rattle.scalar_expr.specs.declared.wide.Source.{Source as WideSource}
use Rattle.scalar_expr.specs.declared.wide.Source.TheVariants as wide_source

-- the numbers of a column
abbrev pub numbers_in : Column → List ℤ
numbers_in (Narrow c) = c.now
numbers_in (Wide c) = c.now

-- the element at this place: of each column its number there
abbrev pub row_at : List (List ℤ) → ℕ → List ℤ
row_at columns j = map (λ c. slice_index_or c j (pos 0)) columns

-- a column of so many numbers of 64 bits
abbrev pub IsNarrowOf : ℕ → Column → Type 0
IsNarrowOf count (Narrow c) = length c.now ≡ count
IsNarrowOf count (Wide c) = ⊥

-- a column of so many numbers
abbrev pub IsColumnOf : ℕ → Column → Type 0
IsColumnOf count column = length (numbers_in column) ≡ count

-- ---- what a step reads

abbrev pub number_at : Source → List ℤ → ℕ → ℤ
number_at (source.Part c) held j = slice_index_or c.now j (pos 0)
number_at (source.Place c) held j = slice_index_or c.now j (pos 0)
number_at (source.Const n) held j = n
number_at source.Held held j = slice_index_or held j (pos 0)

-- there is a number for each of so many elements
abbrev pub Covers : ℕ → Source → Type 0
Covers count (source.Part c) = count ≤ length c.now
Covers count (source.Place c) = length c.now ≡ 256
Covers count s = Unit {0}

-- ---- the same in 128 bits

abbrev pub wide_number_at : WideSource → List ℤ → ℕ → ℤ
wide_number_at (wide_source.Narrow c) held j = slice_index_or c.now j (pos 0)
wide_number_at (wide_source.Wide c) held j = slice_index_or c.now j (pos 0)
wide_number_at (wide_source.Place c) held j = slice_index_or c.now j (pos 0)
wide_number_at (wide_source.Const n) held j = n
wide_number_at wide_source.Held held j = slice_index_or held j (pos 0)

abbrev pub WideCovers : ℕ → WideSource → Type 0
WideCovers count (wide_source.Narrow c) = count ≤ length c.now
WideCovers count (wide_source.Wide c) = count ≤ length c.now
WideCovers count (wide_source.Place c) = length c.now ≡ 256
WideCovers count s = Unit {0}
