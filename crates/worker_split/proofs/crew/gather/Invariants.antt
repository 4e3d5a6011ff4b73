use Rattle.std.proofs.Common.{◌≡◌, ◌≤◌, ◌++◌, ℕ, length}
use Rattle.std.specs.Vec.Iter.{into_iter_items}
use Rattle.worker_split.specs.Passes.{tickets_at}
use Rattle.worker_split.specs.Items.{Within, IsFilledAt}
use Rattle.worker_split.specs.Crew.{AllFilled, passes_of}
use Rattle.worker_split.proofs.crew.gather.Given as goal

abbrev pub invariant-loop-worker : goal.invariant-loop-worker
invariant-loop-worker g l = record {
  length : length l.slots.items ≡ length l.fn.slots.items;
  passes : l.passes.items ++ passes_of (into_iter_items l.worker-iterator) ≡ passes_of l.fn.crew.items;
  filled : AllFilled (Within (g.T.Task.count l.task) (g.T.Task.gives l.task)) (into_iter_items l.worker-iterator);
  placed : (t : ℕ) → 1 ≤ tickets_at t l.passes.items → IsFilledAt (g.T.Task.gives l.task) l.slots.items t;
}
