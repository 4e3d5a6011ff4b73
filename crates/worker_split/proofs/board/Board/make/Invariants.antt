use Rattle.std.proofs.Common.{◌≡◌, ◌<◌, [], ℕ, ◌+◌, length, get_or}
use Rattle.worker_split.specs.declared.rule.Role.TheVariants.{First}
use Rattle.worker_split.specs.Rule.{fresh}
use Rattle.worker_split.specs.Passes.{Drawer}
use Rattle.worker_split.proofs.FreshPass.{fresh_pass}
use Rattle.worker_split.proofs.board.Board.make.Given as goal

abbrev pub invariant-loop-i : goal.invariant-loop-i
invariant-loop-i l = record {
  table : l.first.table_id ≡ l.table.shared.table_id;
  me : l.first.me ≡ (fresh l.n l.workers (First l._i 0), []);
  count : length l.passes.items + 1 ≡ l._i;
  each : (j : ℕ) (x : Drawer) → j < length l.passes.items → get_or l.passes.items j x ≡ fresh_pass (record { table = l.table.shared.table_id; n = l.n; passes = l.workers }) (j + 1);
}
