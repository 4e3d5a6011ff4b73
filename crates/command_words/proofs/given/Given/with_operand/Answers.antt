use Rattle.std.proofs.Common.{◌∙◌, sym}
use Rattle.command_words.proofs.GivenLemmas.{with_operand}
use Rattle.command_words.proofs.given.Given.with_operand.Goals as goal

pub returns-in-None : goal.returns-in-None
returns-in-None c = λ before h. with_operand c.args.verb before c.args.word.now c.args.self c.with.result (sym c.fault.ensures ∙ c.in-None.is) c.with.ensures h
