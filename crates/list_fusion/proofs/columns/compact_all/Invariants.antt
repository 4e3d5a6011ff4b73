use Rattle.std.proofs.Common.{◌≡◌, ℕ, ◌<◌, ◌≤◌, length, get_or, pos, []}
use Rattle.list_fusion.specs.Columnar.{flagged}
use Rattle.list_fusion.proofs.columns.compact_all.Given as goal

abbrev pub invariant-loop-k : goal.invariant-loop-k
invariant-loop-k l = record {
  long : length l.columns ≡ 4;
  done : (k : ℕ) → k < l.k → (t : ℕ) → t < length (flagged l.flags l.count)
      → get_or (get_or l.columns k []) t (pos 0) ≡ get_or (get_or l.fn.columns k []) (get_or (flagged l.flags l.count) t 0) (pos 0);
  rest : (k : ℕ) → l.k ≤ k → get_or l.columns k [] ≡ get_or l.fn.columns k [];
}
