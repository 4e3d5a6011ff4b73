use Rattle.std.proofs.Common.{◌≡◌, drop, map}
use Rattle.script_lang.specs.Steps.{found_from}
use Rattle.script_lang.specs.Views.{statement_of}
use Rattle.script_lang.proofs.names.found.Given as goal

abbrev pub invariant-loop-line : goal.invariant-loop-line
invariant-loop-line l = record {
  count : l.n ≡ l.line-index;
  rest : found_from l.n l.column l.name (map statement_of (drop l.line-index l.lines)) ≡ found_from 0 l.column l.name (map statement_of l.lines);
}
