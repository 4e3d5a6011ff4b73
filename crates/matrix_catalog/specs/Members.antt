-- Operators that lift elements and finish values alike.
use Rattle.std.specs.Prelude.{◌≡◌, ◌↔◌, ℕ, ℤ, List}
use Rattle.op_laws.specs.declared.width.Width.{Width}

-- an operator with the members `takes` to `fits` takes, gives, lifts, finishes and weighs as one with the members `own_takes` to `own_fits`
pub record IsLiftedAs {C : Type 0} (takes : List Width → Type 0) (gives : List Width → List Width) (lifted : List ℤ → C) (finished : C → List ℤ) (fits : C → ℕ → Type 0)
    (own_takes : List Width → Type 0) (own_gives : List Width → List Width) (own_lifted : List ℤ → C) (own_finished : C → List ℤ) (own_fits : C → ℕ → Type 0) : Type 0 where
  pub types : (ty : List Width) → takes ty ↔ own_takes ty
  pub results : (ty : List Width) → gives ty ≡ own_gives ty
  pub lifts : (e : List ℤ) → lifted e ≡ own_lifted e
  pub finishes : (c : C) → finished c ≡ own_finished c
  pub weighs : (c : C) (n : ℕ) → fits c n ↔ own_fits c n
