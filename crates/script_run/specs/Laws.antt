-- What the steps of a plan have to do with the meaning of a script, which knows no plan.
use Rattle.std.specs.Prelude.{◌≡◌, ℕ, true, List, Some, Ok, slice_get}
use Rattle.data_text.specs.Data.{Section}
use Rattle.script_lang.specs.Syntax.{Statement}
use Rattle.fuse_rewrite.specs.Steps.{Kept, steps_of}
use Rattle.fuse_rewrite.specs.Meaning.{values_of_script}
use Rattle.script_run.specs.Fit.{fit_of, over_lists}
use Rattle.script_run.specs.Runs.{value_of_step}

-- over data that fits a script over lists, what the name of each step stands for is what the step makes of what the names at its head stand for
abbrev pub EachStepMakesItsValue : List Statement → Type 0
EachStepMakesItsValue lines = (sections : List Section) (i : ℕ) (s : Kept) → fit_of lines sections ≡ Ok tt → over_lists lines ≡ true → slice_get (steps_of lines) i ≡ Some s
    → slice_get (values_of_script sections lines) s.line ≡ Some (Some (value_of_step lines (values_of_script sections lines) s))
