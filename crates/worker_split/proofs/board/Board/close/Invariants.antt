use Rattle.std.proofs.Common.{◌≡◌, ◌<◌, [], ℕ, ◌+◌, length, get_or, true, vec_len}
use Rattle.worker_split.specs.Dealing.{times}
use Rattle.worker_split.specs.Rule.{first, made, taken}
use Rattle.worker_split.specs.Passes.{Drawer, tickets_at}
use Rattle.worker_split.proofs.Waiting.{Waits}
use Rattle.worker_split.proofs.board.Board.close.Given as goal

abbrev pub invariant-loop-pass : goal.invariant-loop-pass
invariant-loop-pass l = record {
  table : l.first.table_id ≡ l.table.shared.table_id;
  bare : l.first.me.1 ≡ [];
  is_first : first l.first.me.0 ≡ 1;
  spent : l.first.me.0.spent ≡ true;
  made : made l.first.me.0 ≡ length l.fn.passes.items;
  taken : taken l.first.me.0 + length l.passes.items + 1 ≡ length l.fn.passes.items;
  tickets : (t : ℕ) → times t l.first.me.0.tickets + tickets_at t l.passes.items ≡ tickets_at t l.fn.passes.items;
  waiting : (i : ℕ) (x : Drawer) → i < length l.passes.items → Waits l.fn.self i (get_or l.passes.items i x);
}

abbrev pub decreases-loop-pass : goal.decreases-loop-pass
decreases-loop-pass l = vec_len l.passes
