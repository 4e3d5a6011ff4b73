-- What holds of a pipe's fields: words on the layout, which no public clause cites.
use Rattle.std.specs.Prelude.{◌≡◌, ℕ, ℤ, false, List, [], ◌∷◌, length}
use Rattle.std.specs.List.{All}
use Rattle.op_laws.specs.declared.width.Width.{Width}
use Rattle.op_laws.specs.declared.width.Width.TheVariants.{W64}
use Rattle.op_laws.specs.Admits.{Admits}
use Rattle.op_laws.specs.Elements.{Elements, singles}
use Rattle.list_fusion.specs.declared.head.Head.{Head}
use Rattle.list_fusion.specs.declared.stage.Stage.{Stage}
use Rattle.list_fusion.specs.Heads.{head_of, CanBeHead}
use Rattle.list_fusion.specs.Pipes.{Flow}
use Rattle.list_fusion.specs.Stages.{AreTyped, type_along}

pub record IsPipe (head : Head) (len : ℕ) (stages : List Stage) (ty : List Width) : Type 0 where
  pub can : CanBeHead head
  pub long : length (head_of head).items ≡ len
  pub typed : AreTyped stages (head_of head).ty
  pub last : type_along stages (head_of head).ty ≡ ty

-- the stages take the element, and what they make of it is of the last type
pub record IsReady (stages : List Stage) (last : List Width) (e : List ℤ) : Type 0 where
  pub ty : List Width
  pub typed : AreTyped stages ty
  pub along : type_along stages ty ≡ last
  pub admitted : Admits ty e

-- the pipe's head is these elements, and there is no stage
pub record IsPlain (p : Flow) (x : Elements) : Type 0 where
  pub stages : p.stages ≡ []
  pub head : p.head ≡ x

-- the pipe's elements are these numbers, with nothing done to them
pub record AreNumbers (p : Flow) (numbers : List ℤ) : Type 0 where
  pub stages : p.stages ≡ []
  pub forward : p.reversed ≡ false
  pub ty : p.head.ty ≡ W64 ∷ []
  pub items : p.head.items ≡ singles numbers
  pub admitted : All (Admits (W64 ∷ [])) (singles numbers)
