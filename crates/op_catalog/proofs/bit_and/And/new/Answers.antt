use Rattle.std.proofs.Common.{◌∷◌, [], ap}
use Rattle.op_catalog.proofs.BitMeanings.{fold_or-and, HasBits-number_with}
use Rattle.op_catalog.proofs.bit_and.And.new.Goals as goal

pub returns-clause-reduces : goal.returns-clause-reduces
returns-clause-reduces c = record { whole = λ ty es taken admitted. ap (λ a. a ∷ []) (fold_or-and ty es taken admitted) }

pub returns-clause-bits : goal.returns-clause-bits
returns-clause-bits c = HasBits-number_with
