-- Affine functions modulo 2^64: `scale` and `offset` stand for the function that maps y to scale·y + offset.
use Rattle.std.specs.Prelude.{◌≡◌, ℕ, ℤ, pos, ◌+ℤ◌, ◌*ℤ◌, List, [], ◌∷◌, map, slice_index_or}
use Rattle.std.specs.List.{fold}
use Rattle.std.specs.Int.{w64, int_wrap}
use Rattle.op_laws.specs.declared.width.Width.{Width}
use Rattle.op_laws.specs.declared.width.Width.TheVariants.{W64}
use Rattle.op_laws.specs.Widths.{FitsWidth}
use Rattle.op_catalog.specs.declared.affine.Line.{Line}
use Rattle.op_catalog.specs.Products.{product_of}

abbrev pub line : ℤ → ℤ → Line
line a b = record { scale = a; offset = b }

-- the two numbers of an element
abbrev pub scale_of : List ℤ → ℤ
scale_of e = slice_index_or e 0 (pos 0)

abbrev pub offset_of : List ℤ → ℤ
offset_of e = slice_index_or e 1 (pos 0)

abbrev pub line_of : List ℤ → Line
line_of e = line (scale_of e) (offset_of e)

-- first the function a, then the function b
abbrev pub after_line : Line → Line → Line
after_line a b = line (int_wrap w64 (a.scale *ℤ b.scale)) (int_wrap w64 ((b.scale *ℤ a.offset) +ℤ b.offset))

abbrev pub pair_of : Line → List ℤ
pair_of c = c.scale ∷ c.offset ∷ []

abbrev pub IsLineType : List Width → Type 0
IsLineType ty = ty ≡ W64 ∷ W64 ∷ []

-- two numbers of w64, of any weight
pub record IsLine (c : Line) (n : ℕ) : Type 0 where
  pub scale : FitsWidth W64 c.scale
  pub offset : FitsWidth W64 c.offset

-- what the function of an element makes of y
abbrev pub image_of : ℤ → List ℤ → ℤ
image_of y e = int_wrap w64 ((scale_of e *ℤ y) +ℤ offset_of e)

-- the product of the first numbers, and what 0 becomes by all functions in order
abbrev pub affine_of : List (List ℤ) → List ℤ
affine_of es = int_wrap w64 (product_of (map scale_of es)) ∷ fold image_of (pos 0) es ∷ []
