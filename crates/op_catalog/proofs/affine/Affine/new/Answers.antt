use Rattle.op_catalog.proofs.LineMeaning.{fold_or-lines}
use Rattle.op_catalog.proofs.affine.Affine.new.Goals as goal

pub returns : goal.returns
returns c = record { whole = fold_or-lines }
