use Rattle.std.proofs.Common.{◌∙◌, sym, arith}
use Rattle.command_words.proofs.NumberLemmas.{too_large}
use Rattle.command_words.proofs.number.number_in.Goals as goal

pub returns-in_default-3-clause-value : goal.returns-in_default-3-clause-value
returns-in_default-3-clause-value c =
    sym (too_large c.args.least c.args.most c.args.word.now c.parse.result c.in_default.field-0 c.in_default.is c.parse.ensures.value.0 (sym c.all_digits.ensures ∙ c.if-not-all_digits.false) (omega arith))
