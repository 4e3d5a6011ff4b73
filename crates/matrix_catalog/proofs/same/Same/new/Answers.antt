use Rattle.matrix_catalog.proofs.PairLemmas.{same_both}
use Rattle.matrix_catalog.proofs.same.Same.new.Goals as goal

pub returns-clause-pair : goal.returns-clause-pair
returns-clause-pair g c = λ down across ty commuting. same_both (g.met.M.Lifted.lift_laws c.args.m) (g.met.M.Semi.combine_laws c.args.m) ty down across commuting
