use Rattle.std.proofs.Common.{◌≡◌, map}
use Rattle.std.specs.Prelude.{drop}
use Rattle.script_lang.specs.Views.{statement_of}
use Rattle.sketo_run.specs.Inputs.{input_at}
use Rattle.sketo_run.proofs.input_names.input_at.Given as goal

-- the input that is looked for is the one of this number among those of the lines from here on
abbrev pub invariant-loop-line : goal.invariant-loop-line
invariant-loop-line l = input_at (map statement_of l.lines) l.i ≡ input_at (map statement_of (drop l.line-index l.lines)) l.left
