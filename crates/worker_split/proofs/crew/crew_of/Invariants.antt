use Rattle.std.proofs.Common.{◌≡◌, ◌++◌}
use Rattle.std.specs.Vec.Iter.{into_iter_items}
use Rattle.worker_split.specs.Crew.{passes_of}
use Rattle.worker_split.proofs.crew.crew_of.Given as goal

abbrev pub invariant-loop-pass : goal.invariant-loop-pass
invariant-loop-pass g l = passes_of l.crew.items ++ into_iter_items l.pass-iterator ≡ l.fn.passes.items
