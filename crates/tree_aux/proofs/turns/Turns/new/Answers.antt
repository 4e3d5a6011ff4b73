use Rattle.std.proofs.Common.{ap}
use Rattle.op_laws.specs.Elements.{singles}
use Rattle.tree_aux.proofs.DownMeanings.{turns_are}
use Rattle.tree_aux.proofs.turns.Turns.new.Goals as goal

pub returns : goal.returns
returns c = record { whole = λ ty t c taken fits admitted. ap singles (turns_are c t) }
