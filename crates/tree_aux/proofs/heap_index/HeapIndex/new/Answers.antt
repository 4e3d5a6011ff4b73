use Rattle.std.proofs.Common.{ap}
use Rattle.op_laws.specs.Elements.{singles}
use Rattle.tree_aux.proofs.DownMeanings.{heap_are}
use Rattle.tree_aux.proofs.heap_index.HeapIndex.new.Goals as goal

pub returns : goal.returns
returns c = record { whole = λ ty t c taken fits admitted. ap singles (heap_are c t) }
