use Rattle.std.proofs.Common.{◌≡◌, ℕ, ◌<◌, ◌≤◌, length, map, take, drop, []}
use Rattle.std.specs.Int.{w64}
use Rattle.scalar_expr.specs.Steps.{AreSafe, run_in, numbers, height_after}
use Rattle.scalar_expr.specs.Lanes.{numbers_in, row_at}
use Rattle.scalar_expr.proofs.narrow.run_narrow.Given as goal

abbrev pub invariant-loop-step : goal.invariant-loop-step
invariant-loop-step l = record {
  within : l.top ≤ length l.stack;
  safe : AreSafe (length l.columns) (length l.stack) (drop l.step-index l.steps) l.top;
  height : height_after (drop l.step-index l.steps) l.top ≡ height_after l.steps 0;
  rows : (j : ℕ) → j < l.count → run_in (numbers w64 (row_at (map numbers_in l.columns) j)) (drop l.step-index l.steps) (row_at (take l.top l.stack) j) ≡ run_in (numbers w64 (row_at (map numbers_in l.columns) j)) l.steps [];
}
