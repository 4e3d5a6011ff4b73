use Rattle.script_words.proofs.TokenLemmas.{run_is}
use Rattle.script_words.proofs.words.run_length.Goals as goal

pub returns-clause-value : goal.returns-clause-value
returns-clause-value c = rw (c.unwrap_or.ensures, c.first_end.ensures) (run_is c.args.bytes.now)
