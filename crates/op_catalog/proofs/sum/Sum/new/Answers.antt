use Rattle.std.proofs.Common.{◌∷◌, [], ap}
use Rattle.op_catalog.proofs.Meanings.{fold_or-sum}
use Rattle.op_catalog.proofs.sum.Sum.new.Goals as goal

pub returns : goal.returns
returns g c = record { whole = λ ty es taken admitted. ap (λ a. a ∷ []) (fold_or-sum es) }
