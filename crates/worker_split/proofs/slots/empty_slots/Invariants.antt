use Rattle.std.proofs.Common.{◌≡◌, length}
use Rattle.worker_split.proofs.slots.empty_slots.Given as goal

abbrev pub invariant-loop-i : goal.invariant-loop-i
invariant-loop-i g l = length l.slots.items ≡ l._i
