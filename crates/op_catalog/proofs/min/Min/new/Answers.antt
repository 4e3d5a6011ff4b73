use Rattle.std.proofs.Common.{◌∷◌, [], ap}
use Rattle.op_catalog.specs.Numbers.{width_of}
use Rattle.op_catalog.specs.Bounds.{top}
use Rattle.op_catalog.proofs.Meanings.{fold_or-min}
use Rattle.op_catalog.proofs.BoundLemmas.{IsLeast-fold}
use Rattle.op_catalog.proofs.min.Min.new.Goals as goal

pub returns-clause-reduces : goal.returns-clause-reduces
returns-clause-reduces g c = record { whole = λ ty es taken admitted. ap (λ a. a ∷ []) (fold_or-min (top (width_of g.row.W)) es) }

pub returns-clause-least : goal.returns-clause-least
returns-clause-least g c = IsLeast-fold (top (width_of g.row.W))
