use Rattle.command_words.specs.Words.{items_of, texts_of}
use Rattle.command_words.specs.OperandTexts.{operand_texts}
use Rattle.command_words.specs.Commands.{AreInRange}
use Rattle.command_words.proofs.RangeLemmas.{settings_given-in_range, command-in_range}
use Rattle.command_words.proofs.command_line.read_words.Goals as goal

pub returns-in-Some-command_with-clause-ranges : goal.returns-in-Some-command_with-clause-ranges
returns-in-Some-command_with-clause-ranges c =
    let items = items_of (texts_of c.in-Some.rest.now) in
    let in_range : AreInRange c.settings.result = rw (c.settings.ensures items c.in_ok-given.ensures.given_now) (settings_given-in_range items) in
    command-in_range c.in-Some-of_name.verb (operand_texts c.in_ok-given.given.operands) c.settings.result _ in_range c.in-Some-command_with.ensures
