use Rattle.std.proofs.Common.{◌≡◌, ℕ, ◌<◌, length, get_or, pos}
use Rattle.scalar_expr.specs.Lanes.{number_at}
use Rattle.scalar_expr.proofs.narrow.copy.Given as goal

abbrev pub invariant-loop-i : goal.invariant-loop-i
invariant-loop-i l = record {
  long : length l.column ≡ 256;
  done : (j : ℕ) → j < l.i → get_or l.column j (pos 0) ≡ number_at l.source l.held j;
}
