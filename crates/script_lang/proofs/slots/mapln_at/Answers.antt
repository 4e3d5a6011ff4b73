use Rattle.std.proofs.Common.{arith}
use Rattle.script_lang.proofs.LeftLemmas.{function_left}
use Rattle.script_lang.proofs.slots.mapln_at.Goals as goal

-- the first function leaves no more words than there were
pub function_at-requires-2 : goal.function_at-requires-2
function_at-requires-2 c = record { few = omega (arith, function_left c.args.end c.args.words.now _ c.in_ok-leaf.ensures, c.requires.few) }
