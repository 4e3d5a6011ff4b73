use Rattle.std.proofs.Common.{◌≡◌, ◌+◌, ◌++◌, length, drop}
use Rattle.script_words.specs.Lines.{lines_of, sources_of, sources_from}
use Rattle.script_words.proofs.sources.sources_of.Given as goal

-- the lines so far, and those from here on
abbrev pub invariant-loop-line : goal.invariant-loop-line
invariant-loop-line l = record {
  counted : l.number ≡ length l.yielded;
  sources : l.sources.items ++ sources_from (l.number + 1) (drop l.number (lines_of l.bytes)) ≡ sources_of l.bytes;
}
