-- What two operators on lists by name ask of the one operator on lists that joins both ways.
use Rattle.std.specs.Prelude.{◌≡◌, ℤ, List, ◌∷◌, map, Some}
use Rattle.std.specs.List.{fold, All}
use Rattle.op_laws.specs.declared.width.Width.{Width}
use Rattle.op_laws.specs.Admits.{Admits}
use Rattle.op_catalog.specs.declared.list_op.ListOp.{ListOp}
use Rattle.op_catalog.specs.Catalog.{reduction_of}
use Rattle.op_catalog.specs.Operators.{IsOperatorOf}

-- an operator with these members is the one of both names at the type, and what the name makes of results is the result of their values
pub record IsCommutingOf {C : Type 0} (takes : List Width → Type 0) (gives : List Width → List Width) (finished : C → List ℤ)
    (lifted : List ℤ → C) (combined : C → C → C) (down across : ListOp) (ty : List Width) : Type 0 where
  pub same : across ≡ down
  pub operator : IsOperatorOf takes gives finished lifted combined down ty
  pub again : (c : C) (cs : List C) → All (λ c. Admits (gives ty) (finished c)) (c ∷ cs) → reduction_of down ty (map finished (c ∷ cs)) ≡ Some (finished (fold combined c cs))
