use Rattle.std.proofs.Common.{◌≤◌, ◌-◌, length, drop}
use Rattle.command_words.specs.Words.{texts_of}
use Rattle.command_words.proofs.GivenLemmas.{IsReading}
use Rattle.command_words.proofs.command_line.given_by.Given as goal

abbrev pub invariant-loop-at : goal.invariant-loop-at
invariant-loop-at l = record { within : l.at ≤ length l.words; reading : IsReading l.verb (texts_of l.words) (texts_of (drop l.at l.words)) (record { operands = l.given.0; m = l.given.1.0; block = l.given.1.1.0; workers = l.given.1.1.1.0 }) }

abbrev pub decreases-loop-at : goal.decreases-loop-at
decreases-loop-at l = length l.words - l.at
