use Rattle.std.proofs.Common.{◌≡◌, ℕ, ◌<◌, length, get_or, pos}
use Rattle.list_fusion.proofs.columns.copy.Given as goal

abbrev pub invariant-loop-i : goal.invariant-loop-i
invariant-loop-i l = record {
  long : length l.column ≡ 256;
  done : (j : ℕ) → j < l.i → get_or l.column j (pos 0) ≡ get_or l.numbers j (pos 0);
}
