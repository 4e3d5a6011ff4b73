use Rattle.std.proofs.Common.{◌∙◌, sym, ap}
use Rattle.std.specs.Prelude.{is_some}
use Rattle.command_words.proofs.GivenLemmas.{with_option}
use Rattle.command_words.proofs.given.Given.with_option.Goals as goal

pub returns : goal.returns
returns c = λ before h.
    rw c.with_value.ensures (with_option c.args.verb before c.args.word.now _ c.args.self c.in-Some.setting c.in_ok-value.value (sym c.setting_of.ensures ∙ c.in-Some.is)
    (ap is_some (sym c.value.ensures) ∙ (sym c.is_some.ensures ∙ c.if-is_some.false)) c.in_ok-value.ensures.fault c.in_ok-value.ensures.value h)
