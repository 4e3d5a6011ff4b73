use Rattle.std.proofs.Common.{◌≡◌, ◌≤◌, drop, map}
use Rattle.data_text.specs.Named.{section_of}
use Rattle.script_lang.specs.Views.{statement_of}
use Rattle.script_run.specs.Fit.{fit_from, fit_of}
use Rattle.script_run.proofs.fitting.fit.Given as goal

-- the first fault from this line on is that of the script
abbrev pub invariant-loop-n : goal.invariant-loop-n
invariant-loop-n l = record {
  few : l.inputs ≤ l.n;
  left : fit_from (map statement_of l.lines) (map section_of l.fn.sections) l.inputs (drop l.n (map statement_of l.lines)) ≡ fit_of (map statement_of l.lines) (map section_of l.fn.sections);
}
