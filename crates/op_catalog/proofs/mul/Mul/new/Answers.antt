use Rattle.std.proofs.Common.{◌∷◌, [], ap}
use Rattle.op_catalog.proofs.ProductMeaning.{fold_or-product}
use Rattle.op_catalog.proofs.mul.Mul.new.Goals as goal

pub returns : goal.returns
returns c = record { whole = λ ty es taken admitted. ap (λ a. a ∷ []) (fold_or-product ty es taken admitted) }
