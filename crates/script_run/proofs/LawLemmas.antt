-- Each step of a plan makes what its name stands for.
use Rattle.std.proofs.Common.{◌+◌, List, map, take, drop, refl}
use Rattle.script_lang.specs.declared.line.Line.{Line}
use Rattle.script_lang.specs.Views.{statement_of}
use Rattle.script_lang.specs.Sound.{IsTypedScript, AreSmallLines}
use Rattle.fuse_rewrite.specs.Steps.{steps_of}
use Rattle.fuse_rewrite.specs.Chains.{EachStepIsLinked}
use Rattle.fuse_rewrite.specs.Meaning.{values_of_script}
use Rattle.script_run.specs.Laws.{EachStepMakesItsValue}
use Rattle.script_run.proofs.FitsLemmas.{fits_lists}
use Rattle.script_run.proofs.StepLemmas.{makes_value}

pub steps_make_values : (ls : List Line) → IsTypedScript (map statement_of ls) → AreSmallLines (map statement_of ls) → EachStepIsLinked → EachStepMakesItsValue (map statement_of ls)
steps_make_values ls typed small linked sections i s fits lists at =
    let lines = map statement_of ls in
    let steps = steps_of lines in
    makes_value ls sections typed (fits_lists lines sections fits lists) small (take i steps) s (drop (i + 1) steps) (values_of_script sections lines) (λ n kept needed. refl) (linked ls typed i s at)
