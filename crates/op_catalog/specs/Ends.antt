-- The first and the last element of a list.
use Rattle.std.specs.Prelude.{ℕ, ℤ, List, [], ◌∷◌, Option, Some, None}
use Rattle.op_laws.specs.declared.width.Width.{Width}
use Rattle.op_laws.specs.Admits.{Admits}

abbrev pub first_element : List (List ℤ) → Option (List ℤ)
first_element [] = None
first_element (e ∷ es) = Some e

abbrev pub last_element : List (List ℤ) → Option (List ℤ)
last_element [] = None
last_element (e ∷ []) = Some e
last_element (e ∷ d ∷ es) = last_element (d ∷ es)

-- an element of the type, of any weight
abbrev pub IsOfType : List Width → List ℤ → ℕ → Type 0
IsOfType ty c _ = Admits ty c
