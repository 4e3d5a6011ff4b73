use Rattle.std.proofs.Common.{◌≡◌, List, [], length, map, take, drop}
use Rattle.data_text.specs.Data.{Section}
use Rattle.script_lang.specs.Views.{statement_of}
use Rattle.script_run.specs.Needs.{Holds}
use Rattle.script_run.proofs.steps.run_steps.Given as goal

abbrev pub invariant-loop-i : goal.invariant-loop-i
invariant-loop-i g l = record {
  long : length l.table ≡ length l.lines;
  held : (sections : List Section) → Holds (map statement_of l.lines) [] l.steps sections l.initial.table → Holds (map statement_of l.lines) (take l.i l.steps) (drop l.i l.steps) sections l.table;
}
