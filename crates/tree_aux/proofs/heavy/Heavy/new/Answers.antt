use Rattle.std.proofs.Common.{refl}
use Rattle.tree_aux.proofs.TreeMeanings.{heavy_greatest}
use Rattle.tree_aux.proofs.heavy.Heavy.new.Goals as goal

pub returns-clause-reduces : goal.returns-clause-reduces
returns-clause-reduces g c = record { whole = λ ty t taken admitted. refl }

pub returns-clause-greatest : goal.returns-clause-greatest
returns-clause-greatest g c = heavy_greatest
