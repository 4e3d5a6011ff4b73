use Rattle.matrix_catalog.proofs.PairLemmas.{first_down}
use Rattle.matrix_catalog.proofs.first_down.FirstDown.new.Goals as goal

pub returns-clause-pair : goal.returns-clause-pair
returns-clause-pair g c = first_down
