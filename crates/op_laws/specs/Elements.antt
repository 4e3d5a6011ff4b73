-- What a list of elements is seen as.
use Rattle.std.specs.Prelude.{ℤ, List, [], ◌∷◌, map}
use Rattle.op_laws.specs.declared.width.Width.{Width}

-- elements of one type, in order
pub record Elements : Type 0 where
  pub ty : List Width
  pub items : List (List ℤ)

-- elements of one number each
abbrev pub singles : List ℤ → List (List ℤ)
singles xs = map (λ x. x ∷ []) xs
