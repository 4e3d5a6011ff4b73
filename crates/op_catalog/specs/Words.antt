-- Elements of one number of w64.
use Rattle.std.specs.Prelude.{◌≡◌, ℕ, ℤ, List, [], ◌∷◌}
use Rattle.op_laws.specs.declared.width.Width.{Width}
use Rattle.op_laws.specs.declared.width.Width.TheVariants.{W64}
use Rattle.op_laws.specs.Widths.{FitsWidth}

abbrev pub IsWordType : List Width → Type 0
IsWordType ty = ty ≡ W64 ∷ []

-- a number of w64, of any weight
abbrev pub IsWord : ℤ → ℕ → Type 0
IsWord c _ = FitsWidth W64 c
