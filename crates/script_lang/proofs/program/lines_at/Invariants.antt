use Rattle.std.proofs.Common.{◌≡◌, [], drop, map, vec_len}
use Rattle.script_lang.specs.Script.{lines_at}
use Rattle.script_lang.specs.Sound.{AreSmallLines}
use Rattle.script_lang.specs.Views.{statement_of}
use Rattle.script_lang.proofs.program.lines_at.Given as goal

-- the lines so far, and what is left
abbrev pub invariant-loop-source : goal.invariant-loop-source
invariant-loop-source l = record {
  few : vec_len l.lines ≡ l.source-index;
  rest : lines_at (map statement_of l.lines.items) (drop l.source-index l.sources) ≡ lines_at [] l.sources;
  small : AreSmallLines (map statement_of l.lines.items);
}
