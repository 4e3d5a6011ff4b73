use Rattle.std.proofs.Common.{◌∷◌, [], length-append, ◌≡◌, ◌+◌, ◌-◌, get_or, take, drop, length, sym, arith}
use Rattle.std.proofs.lemmas.Grind.{common_steps}
use Rattle.script_words.specs.Runs.{rest_of_word}
use Rattle.script_words.proofs.TokenLemmas.{HasRest, is_done, skips, takes, word_is}
use Rattle.script_words.proofs.words.words_of.Goals as goal

-- no byte is left
pub returns-clause-value : goal.returns-clause-value
returns-clause-value c = is_done c.args.line.now c.loop-at.at c.loop-at.words.items _ c.loop-at-test.false c.loop-at.invariant.words

-- after a blank
pub loop-at-preserved-then-is_line_blank : goal.loop-at-preserved-then-is_line_blank
loop-at-preserved-then-is_line_blank c = record {
  within = omega arith;
  few = omega (arith, c.loop-at.invariant.few);
  words = skips c.args.line.now c.loop-at.at c.loop-at.words.items _ c.loop-at-test.true (sym c.if-is_line_blank.ensures) c.loop-at.invariant.words;
}

-- after a word
pub loop-at-preserved : goal.loop-at-preserved
loop-at-preserved c =
    let line = c.args.line.now in
    let at = c.loop-at.at in
    let whole : take (length line - (at + 1)) (drop (at + 1) line) ≡ drop (at + 1) line = grind (arith, common_steps) in
    let rest : c.rest_of_word.result ≡ rest_of_word (get_or line at 0) (drop (at + 1) line) = rw whole at c.rest_of_word.ensures.value in
    let one : HasRest (at + 1) (get_or line at 0) (drop (at + 1) line) c.rest_of_word.result =
    rw rest (word_is (at + 1) (get_or line at 0) (drop (at + 1) line) (sym c.if-is_line_blank.ensures)) in
    record {
      within = grind (arith, common_steps);
      few = rw c.in_ok-push.ensures.items (omega (arith, length-append c.loop-at.words.items (c.new.result ∷ []), c.loop-at.invariant.few));
      words = rw (c.in_ok-push.ensures.items, c.new.ensures) (takes line at c.rest_of_word.result c.loop-at.words.items _ c.loop-at-test.true one c.loop-at.invariant.words);
    }
