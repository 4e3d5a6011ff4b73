use Rattle.std.proofs.Common.{◌≡◌, ℕ, ◌<◌, ◌≤◌, length, get_or, pos}
use Rattle.list_fusion.specs.Columnar.{flagged}
use Rattle.list_fusion.proofs.columns.compact.Given as goal

abbrev pub invariant-loop-i : goal.invariant-loop-i
invariant-loop-i l = record {
  long : length l.column ≡ 256;
  count : l.kept ≡ length (flagged l.flags l.i);
  fewer : l.kept ≤ l.i;
  done : (t : ℕ) → t < length (flagged l.flags l.i) → get_or l.column t (pos 0) ≡ get_or l.fn.column (get_or (flagged l.flags l.i) t 0) (pos 0);
  rest : (j : ℕ) → l.i ≤ j → get_or l.column j (pos 0) ≡ get_or l.fn.column j (pos 0);
}
