use Rattle.std.proofs.Common.{◌≡◌, ◌≤◌, drop, map}
use Rattle.script_lang.specs.Views.{statement_of}
use Rattle.script_lang.specs.Counts.{prints_from}
use Rattle.script_lang.proofs.names.count_prints.Given as goal

abbrev pub invariant-loop-line : goal.invariant-loop-line
invariant-loop-line l = record {
  few : l.n ≤ l.line-index;
  rest : prints_from l.n (map statement_of (drop l.line-index l.lines)) ≡ prints_from 0 (map statement_of l.lines);
}
