use Rattle.std.proofs.Common.{refl}
use Rattle.op_catalog.proofs.EndMeanings.{fold-first}
use Rattle.op_catalog.proofs.first.First.new.Goals as goal

pub returns-clause-reduces : goal.returns-clause-reduces
returns-clause-reduces c = record { some = λ ty e es taken admitted. fold-first e es }

pub returns-clause-operator : goal.returns-clause-operator
returns-clause-operator c = record { taken = refl; typed = refl; reduces = λ e es all. fold-first e es }
