use Rattle.std.proofs.Common.{◌≡◌, ◌-◌, get_or, true, arith}
use Rattle.std.specs.Char.{digit_value}
use Rattle.std.proofs.lemmas.Int.Digits.{digits_value_more}
use Rattle.script_words.proofs.NumberLemmas.{digit_at, next_capped}
use Rattle.script_words.proofs.numbers.digits_of.Goals as goal

pub loop-b-preserved : goal.loop-b-preserved
loop-b-preserved c =
    let d : digit_value (get_or c.args.text.now c.loop-b.b-index 0) ≡ get_or c.args.text.now c.loop-b.b-index 0 - 48 = digit_at c.args.text.now c.loop-b.b-index c.requires c.loop-b-test.true in
    rw (digits_value_more 10 c.args.text.now c.loop-b.b-index c.loop-b-test.true, d) (next_capped c.loop-b.n _ (get_or c.args.text.now c.loop-b.b-index 0 - 48) c.loop-b.invariant c.saturating_add-n.result (omega arith))
