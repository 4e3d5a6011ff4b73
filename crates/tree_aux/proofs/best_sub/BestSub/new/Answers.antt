use Rattle.std.proofs.Common.{ap}
use Rattle.tree_aux.specs.LongPaths.{best_of}
use Rattle.tree_aux.proofs.TreeMeanings.{best_are, best_greatest}
use Rattle.tree_aux.proofs.best_sub.BestSub.new.Goals as goal

pub returns-clause-reduces : goal.returns-clause-reduces
returns-clause-reduces g c = record { whole = λ ty t taken admitted. ap best_of (best_are t) }

pub returns-clause-greatest : goal.returns-clause-greatest
returns-clause-greatest g c = best_greatest
