use Rattle.std.proofs.Common.{◌≡◌, ◌≤◌, ℕ, length}
use Rattle.std.specs.Vec.Iter.{into_iter_items}
use Rattle.worker_split.specs.Dealing.{times}
use Rattle.worker_split.specs.Items.{AllGiven, Within, IsFilledAt, KeepsFilled, tickets_of}
use Rattle.worker_split.proofs.slots.place.Given as goal

abbrev pub invariant-loop-ticket : goal.invariant-loop-ticket
invariant-loop-ticket g l = record {
  length : length l.slots.items ≡ length l.fn.slots.items;
  given : AllGiven (Within (g.T.Task.count l._task) (g.T.Task.gives l._task)) (into_iter_items l.ticket-iterator);
  kept : KeepsFilled (g.T.Task.gives l._task) l.fn.slots.items l.slots.items;
  placed : (t : ℕ) → times t (tickets_of (into_iter_items l.ticket-iterator)) ≡ 0 → 1 ≤ times t (tickets_of l.fn.items.items) → IsFilledAt (g.T.Task.gives l._task) l.slots.items t;
}
