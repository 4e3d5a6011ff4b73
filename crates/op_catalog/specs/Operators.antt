-- Which lawful operator a name and a type of element lead to.
use Rattle.std.specs.Prelude.{◌≡◌, ℤ, List, [], ◌∷◌, Some, Ok}
use Rattle.std.specs.List.{fold, All}
use Rattle.op_laws.specs.declared.width.Width.{Width}
use Rattle.op_laws.specs.Admits.{Admits}
use Rattle.op_laws.specs.Folds.{step}
use Rattle.op_catalog.specs.declared.list_op.ListOp.{ListOp}
use Rattle.op_catalog.specs.Catalog.{typed_of, reduction_of}

-- an operator with these members is the one of the name at the type
pub record IsOperatorOf {C : Type 0} (takes : List Width → Type 0) (gives : List Width → List Width) (finished : C → List ℤ)
    (lifted : List ℤ → C) (combined : C → C → C) (name : ListOp) (ty : List Width) : Type 0 where
  pub taken : takes ty
  pub typed : typed_of name ty ≡ Ok (gives ty)
  pub reduces : (e : List ℤ) (es : List (List ℤ)) → All (Admits ty) (e ∷ es)
      → reduction_of name ty (e ∷ es) ≡ Some (finished (fold (step lifted combined) (lifted e) es))

-- the same, with the value of no element
pub record IsMonoidOf {C : Type 0} (takes : List Width → Type 0) (gives : List Width → List Width) (finished : C → List ℤ) (nothing : C)
    (lifted : List ℤ → C) (combined : C → C → C) (name : ListOp) (ty : List Width) : Type 0 where
  pub operator : IsOperatorOf takes gives finished lifted combined name ty
  pub none : reduction_of name ty [] ≡ Some (finished nothing)
