-- Elements of one number.
use Rattle.std.specs.Prelude.{ℕ, ◌==◌, if◌then◌else◌, ℤ, pos, List, map, slice_index_or}
use Rattle.op_laws.specs.declared.width.Width.{Width}
use Rattle.op_laws.specs.declared.width.Width.TheVariants.{W64, W96, W128}

-- the number of an element that has one
abbrev pub number_of : List ℤ → ℤ
number_of e = slice_index_or e 0 (pos 0)

-- the numbers of elements that have one each
abbrev pub numbers_of : List (List ℤ) → List ℤ
numbers_of es = map number_of es

-- the width of W bits, where W is 64, 96 or 128
abbrev pub width_of : ℕ → Width
width_of W = if W == 64 then W64 else (if W == 96 then W96 else W128)
