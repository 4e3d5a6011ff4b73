use Rattle.std.proofs.Common.{◌≡◌, ℕ, ◌<◌, length, get_or, pos}
use Rattle.scalar_expr.specs.Values.{chosen}
use Rattle.scalar_expr.proofs.wide.choose_columns.Given as goal

abbrev pub invariant-loop-i : goal.invariant-loop-i
invariant-loop-i l = record {
  long : length l.out ≡ 256;
  done : (j : ℕ) → j < l.i → get_or l.out j (pos 0) ≡ chosen (get_or l.c j (pos 0)) (get_or l.a j (pos 0)) (get_or l.b j (pos 0));
}
