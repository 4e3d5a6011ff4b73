use Rattle.std.proofs.Common.{◌≡◌, ℕ, ◌<◌, ◌≤◌, length, get_or, pos}
use Rattle.std.specs.Int.{w64}
use Rattle.scalar_expr.specs.Steps.{made}
use Rattle.scalar_expr.specs.Lanes.{number_at}
use Rattle.scalar_expr.proofs.narrow.fill.Given as goal

abbrev pub invariant-loop-i : goal.invariant-loop-i
invariant-loop-i l = record {
  long : length l.out ≡ 256;
  done : (j : ℕ) → j < l.i → get_or l.out j (pos 0) ≡ made w64 l.op (number_at l.a l.fn.out j) (number_at l.b l.fn.out j);
  rest : (j : ℕ) → l.i ≤ j → get_or l.out j (pos 0) ≡ get_or l.fn.out j (pos 0);
}
