-- That elements are of a type has one proof at most, as a ghost field asks.
use Rattle.std.specs.Prelude.{ℤ, List, [], ◌∷◌}
use Rattle.std.specs.Coded.{×_prop, Unit-prop}
use Rattle.std.proofs.Props.{props}
use Rattle.op_laws.specs.declared.width.Width.{Width}
use Rattle.op_laws.specs.Admits.{Admits}
use Rattle.op_laws.specs.Widths.{FitsWidth}

pub Admits-prop : (ty : List Width) (e : List ℤ) → IsProp (Admits ty e)
Admits-prop [] [] = Unit-prop
Admits-prop [] (v ∷ e) = λ x y. absurd x
Admits-prop (w ∷ ty) [] = λ x y. absurd x
Admits-prop (w ∷ ty) (v ∷ e) = let first : IsProp (FitsWidth w v) = Prim.hlevel props in ×_prop first (Admits-prop ty e)
