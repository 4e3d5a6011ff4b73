-- An operator whose results are what the definition of a name says is the operator of that name.
use Rattle.std.proofs.Common.{◌≡◌, ℤ, List, Ok}
use Rattle.op_laws.specs.declared.width.Width.{Width}
use Rattle.op_laws.specs.TreeFolds.{Upward, Downward, ReducesTree}
use Rattle.op_laws.specs.RoseFolds.{ReducesRose}
use Rattle.tree_aux.specs.ComingDown.{ComesDown, ComesDownRose}
use Rattle.tree_names.specs.declared.tree_name.TreeName.{TreeName}
use Rattle.tree_names.specs.declared.down_name.DownName.{DownName}
use Rattle.tree_names.specs.declared.rose_name.RoseName.{RoseName}
use Rattle.tree_names.specs.declared.rose_down_name.RoseDownName.{RoseDownName}
use Rattle.tree_names.specs.Names.{tree_typed, down_typed, rose_typed, rose_down_typed}
use Rattle.tree_catalog.specs.Meanings.{tree_value, left_step, right_step, rose_value, child_step}
use Rattle.tree_catalog.specs.Operators.{IsTreeOperatorOf, IsDownOperatorOf, IsRoseOperatorOf, IsRoseDownOperatorOf}

pub up_tree : {V G : Type 0} {takes : List Width → Type 0} {gives : List Width → List Width} {finished : V → List ℤ} {k : Upward (List ℤ) V G} (name : TreeName) (ty : List Width)
    → takes ty → tree_typed name ty ≡ Ok (gives ty) → ReducesTree takes finished k (tree_value name) → IsTreeOperatorOf takes gives finished k name ty
up_tree name ty taken typed reduces = record { taken = taken; typed = typed; reduces = λ t each. reduces.whole ty t taken each }

pub down_tree : {V D : Type 0} {takes : List Width → Type 0} {gives : List Width → List Width} {finished : V → List ℤ} {k : Downward (List ℤ) V D} (name : DownName) (ty : List Width)
    → takes ty → down_typed name ty ≡ Ok (gives ty) → ComesDown takes finished k (left_step name) (right_step name) → IsDownOperatorOf takes gives finished k name ty
down_tree name ty taken typed comes = record { taken = taken; typed = typed; comes = λ t c fit each. comes.whole ty t c taken fit each }

pub up_rose : {V G : Type 0} {takes : List Width → Type 0} {gives : List Width → List Width} {finished : V → List ℤ} {nothing : V} {k : Upward (List ℤ) V G} (name : RoseName) (ty : List Width)
    → takes ty → rose_typed name ty ≡ Ok (gives ty) → ReducesRose takes finished nothing k (rose_value name) → IsRoseOperatorOf takes gives finished nothing k name ty
up_rose name ty taken typed reduces = record { taken = taken; typed = typed; reduces = λ r each. reduces.whole ty r taken each }

pub down_rose : {V D : Type 0} {takes : List Width → Type 0} {gives : List Width → List Width} {finished : V → List ℤ} {k : Downward (List ℤ) V D} (name : RoseDownName) (ty : List Width)
    → takes ty → rose_down_typed name ty ≡ Ok (gives ty) → ComesDownRose takes finished k (child_step name) → IsRoseDownOperatorOf takes gives finished k name ty
down_rose name ty taken typed comes = record { taken = taken; typed = typed; comes = λ r c fit each. comes.whole ty r c taken fit each }
