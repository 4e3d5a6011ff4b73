use Rattle.matrix_catalog.proofs.PairLemmas.{last_across}
use Rattle.matrix_catalog.proofs.last_across.LastAcross.new.Goals as goal

pub returns-clause-pair : goal.returns-clause-pair
returns-clause-pair g c = last_across
