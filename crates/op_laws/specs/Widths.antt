-- Widths: ranges of whole numbers.
use Rattle.std.specs.Prelude.{ℕ, ◌^◌, nat_lt, if◌then◌else◌, ℤ, pos, neg_ℤ, ◌≤ℤ◌, ◌<ℤ◌, Option, Some, None}
use Rattle.op_laws.specs.declared.width.Width.{Width}
use Rattle.op_laws.specs.declared.width.Width.TheVariants.{W64, W96, W128}

-- the bits of a number of the width, without its sign
abbrev pub width_bits : Width → ℕ
width_bits W64 = 63
width_bits W96 = 95
width_bits W128 = 127

-- v is a number of the width w
pub record FitsWidth (w : Width) (v : ℤ) : Type 0 where
  pub low : neg_ℤ (pos (2 ^ width_bits w)) ≤ℤ v
  pub high : v <ℤ pos (2 ^ width_bits w)

-- each number of the width v is one of the width w
abbrev pub IsWithin : Width → Width → Type 0
IsWithin v w = (x : ℤ) → FitsWidth v x → FitsWidth w x

-- the width that is next in range
abbrev pub next_width : Width → Option Width
next_width W64 = Some W96
next_width W96 = Some W128
next_width W128 = None

-- of two widths the one with the greater range
abbrev pub wider_width : Width → Width → Width
wider_width v w = if nat_lt (width_bits v) (width_bits w) then w else v
