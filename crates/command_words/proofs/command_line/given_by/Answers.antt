use Rattle.std.proofs.Common.{◌≡◌, ◌+◌, ◌-◌, length, take, drop, ap, sym, ◌∙◌, arith, length-drop}
use Rattle.std.proofs.lemmas.List.{drop-drop, take_all}
use Rattle.command_words.specs.Seen.{item_of, word_count}
use Rattle.command_words.specs.Words.{texts_of}
use Rattle.command_words.proofs.GivenLemmas.{reads_on}
use Rattle.command_words.proofs.command_line.given_by.Goals as goal

pub loop-at-preserved : goal.loop-at-preserved
loop-at-preserved c =
    let reading = c.loop-at.invariant.reading in
    let one = c.in_ok-given.ensures reading.before reading.given_now in
    let words = c.args.words.now in
    let after : drop (word_count c.item_at-item.result) (drop c.loop-at.at words) ≡ drop (c.loop-at.at + c.word_count-at.result) words =
    drop-drop (word_count c.item_at-item.result) c.loop-at.at words ∙ ap (λ n. drop (c.loop-at.at + n) words) (sym c.word_count-at.ensures) in
    let whole : take (length words - c.loop-at.at) (drop c.loop-at.at words) ≡ drop c.loop-at.at words = take_all (length words - c.loop-at.at) (drop c.loop-at.at words) (omega (arith, length-drop c.loop-at.at words)) in
    record {
      within = omega (arith, ap length whole, c.item_at-item.ensures.within, c.word_count-at.ensures, length-drop c.loop-at.at words);
      reading = reads_on c.args.verb (texts_of words) (texts_of (drop c.loop-at.at words)) _ (item_of c.item_at-item.result) _ _ reading (rw (whole, after) at c.item_at-item.ensures.item) one;
    }
