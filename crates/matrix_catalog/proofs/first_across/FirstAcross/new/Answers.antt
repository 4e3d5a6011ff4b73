use Rattle.matrix_catalog.proofs.PairLemmas.{first_across}
use Rattle.matrix_catalog.proofs.first_across.FirstAcross.new.Goals as goal

pub returns-clause-pair : goal.returns-clause-pair
returns-clause-pair g c = first_across
