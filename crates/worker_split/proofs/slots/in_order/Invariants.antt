use Rattle.std.proofs.Common.{◌≡◌, ◌+◌, ◌<◌, ℕ, length, get_or}
use Rattle.std.specs.Vec.Iter.{into_iter_items}
use Rattle.worker_split.proofs.ItemLemmas.{AllFilledFrom}
use Rattle.worker_split.proofs.slots.in_order.Given as goal

abbrev pub invariant-loop-slot : goal.invariant-loop-slot
invariant-loop-slot g l = record {
  count : length l.items.items + length (into_iter_items l.slot-iterator) ≡ length l.fn.slots.items;
  made : (u : ℕ) (x : g.row.X.Denot) → u < length l.items.items → g.T.Task.gives l._task u (get_or l.items.items u x);
  left : AllFilledFrom (g.T.Task.gives l._task) (length l.items.items) (into_iter_items l.slot-iterator);
}
