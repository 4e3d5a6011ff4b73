use Rattle.std.proofs.Common.{ap}
use Rattle.op_laws.specs.Elements.{singles}
use Rattle.tree_aux.proofs.DownMeanings.{pre_are}
use Rattle.tree_aux.proofs.pre.Pre.new.Goals as goal

pub returns : goal.returns
returns g c = record { whole = λ ty t c taken fits admitted. ap singles (pre_are c t) }
