use Rattle.std.proofs.Common.{◌∷◌, [], ap}
use Rattle.op_catalog.specs.Numbers.{width_of}
use Rattle.op_catalog.specs.Bounds.{bottom}
use Rattle.op_catalog.proofs.Meanings.{fold_or-max}
use Rattle.op_catalog.proofs.BoundLemmas.{IsGreatest-fold}
use Rattle.op_catalog.proofs.max.Max.new.Goals as goal

pub returns-clause-reduces : goal.returns-clause-reduces
returns-clause-reduces g c = record { whole = λ ty es taken admitted. ap (λ a. a ∷ []) (fold_or-max (bottom (width_of g.row.W)) es) }

pub returns-clause-greatest : goal.returns-clause-greatest
returns-clause-greatest g c = IsGreatest-fold (bottom (width_of g.row.W))
