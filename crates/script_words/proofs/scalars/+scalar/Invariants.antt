use Rattle.std.proofs.Common.{◌+◌, ◌*◌}
use Rattle.script_words.proofs.scalars.+scalar.Given as goal

abbrev pub decreases-scalar_at : goal.decreases-scalar_at
decreases-scalar_at l = 3 * l.room

abbrev pub decreases-nested_at : goal.decreases-nested_at
decreases-nested_at l = 3 * l.room + 2

abbrev pub decreases-parts_at : goal.decreases-parts_at
decreases-parts_at l = 3 * l.room + 1
