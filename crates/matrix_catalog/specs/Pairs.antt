-- What two operators on lists make of a matrix, by their names: the first joins downwards, the second across.
use Rattle.std.specs.Prelude.{◌≡◌, ℕ, ◌≤◌, ℤ, pos, ◌&&◌, not, if◌then◌else◌, List, [], ◌∷◌, length, Some, Ok, unwrap_or, refl}
use Rattle.std.specs.Option.{option_map}
use Rattle.std.specs.List.{All}
use Rattle.op_laws.specs.declared.TheConstants.{MAX_ELEMENTS}
use Rattle.op_laws.specs.declared.width.Width.{Width}
use Rattle.op_laws.specs.declared.width.Width.TheVariants.{W64}
use Rattle.op_laws.specs.Admits.{Admits}
use Rattle.op_laws.specs.Cuts.{cells}
use Rattle.op_laws.specs.Folds.{fold_rows}
use Rattle.op_laws.specs.Tables.{columns, reduced}
use Rattle.op_catalog.specs.declared.list_op.ListOp.{ListOp}
use Rattle.op_catalog.specs.declared.list_op.ListOp.TheVariants.{Add, First, Last}
use Rattle.op_catalog.specs.Catalog.{typed_of, is_end, reduction_of}

-- the operator that says the type: of `first` or `last` and another the other, else the one that joins downwards
abbrev pub governing : ListOp → ListOp → ListOp
governing down across = if is_end down && not (is_end across) then across else down

-- the operator on lists that joins the one way, where the other way answers the first or the last operand
abbrev pub part_of : ListOp → ListOp → ListOp
part_of down across = if is_end down then across else down

-- what the operator makes of one or more elements. The type plays no part then: it says what is made of none
abbrev pub value_of : ListOp → List Width → List (List ℤ) → List ℤ
value_of op ty es = unwrap_or (reduction_of op ty es) []

-- what the one makes downwards of what the other makes of each row
abbrev pub pair_value : ListOp → ListOp → List Width → List (List (List ℤ)) → List ℤ
pair_value down across ty rows = reduced (value_of down ty) (value_of across ty) rows

-- the rows of a matrix with cells of a type: there is a row and a column, and the rows are equally long
pub record IsTable (ty : List Width) (rows : List (List (List ℤ))) : Type 0 where
  pub some_row : 1 ≤ length rows
  pub some_column : 1 ≤ columns rows
  pub even : All (λ row. length row ≡ columns rows) rows
  pub admitted : All (All (Admits ty)) rows
  pub few : cells rows ≤ MAX_ELEMENTS

-- an operator on matrices with these members is the one of the two names at the type: its finished fold of a matrix is what they make of it
pub record IsPairOf {C : Type 0} (takes : List Width → Type 0) (gives : List Width → List Width) (finished : C → List ℤ) (lifted : List ℤ → C)
    (downwards sideways : C → C → C) (down across : ListOp) (ty : List Width) : Type 0 where
  pub taken : takes ty
  pub typed : typed_of (governing down across) ty ≡ Ok (gives ty)
  pub reduces : (rows : List (List (List ℤ))) → IsTable ty rows → option_map finished (fold_rows lifted downwards sideways rows) ≡ Some (pair_value down across ty rows)

-- worked rows

abbrev one : ℕ → List ℤ
one n = pos n ∷ []

abbrev two_by_three : List (List (List ℤ))
two_by_three = (one 1 ∷ one 2 ∷ one 3 ∷ []) ∷ (one 4 ∷ one 5 ∷ one 6 ∷ []) ∷ []

total : pair_value Add Add (W64 ∷ []) two_by_three ≡ one 21
total = refl

total_of_first_row : pair_value First Add (W64 ∷ []) two_by_three ≡ one 6
total_of_first_row = refl

total_of_last_row : pair_value Last Add (W64 ∷ []) two_by_three ≡ one 15
total_of_last_row = refl

total_of_last_column : pair_value Add Last (W64 ∷ []) two_by_three ≡ one 9
total_of_last_column = refl

last_cell : pair_value Last Last (W64 ∷ []) two_by_three ≡ one 6
last_cell = refl
