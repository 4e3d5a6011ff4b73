use Rattle.std.proofs.Common.{◌≡◌, ◌≤◌, ◌+◌, ◌-◌, ◌++◌, length, drop}
use Rattle.script_words.specs.Lines.{tokens_from}
use Rattle.script_words.proofs.words.words_of.Given as goal

-- the words so far, and those of the bytes from here on
abbrev pub invariant-loop-at : goal.invariant-loop-at
invariant-loop-at l = record {
  within : l.at ≤ length l.line;
  few : length l.words.items ≤ l.at;
  words : l.words.items ++ tokens_from (l.at + 1) (drop l.at l.line) ≡ tokens_from 1 l.line;
}

abbrev pub decreases-loop-at : goal.decreases-loop-at
decreases-loop-at l = length l.initial.line - l.at
