-- The scripts that run today: those over lists.
use Rattle.std.specs.Prelude.{◌≡◌, ℕ, true, false, List, Ok}
use Rattle.script_lang.specs.Syntax.{Statement}
use Rattle.script_lang.specs.Script.{script}
use Rattle.script_run.specs.Fit.{over_lists}

-- an accepted script whose inputs are lists
pub record IsBuilt (bytes : List ℕ) : Type 0 where
  pub lines : List Statement
  pub accepted : script bytes ≡ Ok lines
  pub lists : over_lists lines ≡ true

-- an accepted script with an input of another kind
pub record IsNotBuilt (bytes : List ℕ) : Type 0 where
  pub lines : List Statement
  pub accepted : script bytes ≡ Ok lines
  pub others : over_lists lines ≡ false
