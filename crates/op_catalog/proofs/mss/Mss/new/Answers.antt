use Rattle.std.proofs.Common.{◌∷◌, [], ap}
use Rattle.op_catalog.proofs.SegmentMeaning.{fold_or-segments, IsGreatestSegment-best_segment}
use Rattle.op_catalog.proofs.mss.Mss.new.Goals as goal

pub returns-clause-reduces : goal.returns-clause-reduces
returns-clause-reduces g c = record { whole = λ ty es taken admitted. ap (λ a. a ∷ []) (fold_or-segments es) }

pub returns-clause-greatest : goal.returns-clause-greatest
returns-clause-greatest g c = IsGreatestSegment-best_segment
