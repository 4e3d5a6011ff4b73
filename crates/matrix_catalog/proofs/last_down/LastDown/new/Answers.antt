use Rattle.matrix_catalog.proofs.PairLemmas.{last_down}
use Rattle.matrix_catalog.proofs.last_down.LastDown.new.Goals as goal

pub returns-clause-pair : goal.returns-clause-pair
returns-clause-pair g c = last_down
