use Rattle.std.proofs.Common.{◌≡◌, ◌≤◌, length, take, drop, []}
use Rattle.std.specs.Int.{w128}
use Rattle.scalar_expr.specs.Steps.{AreSafe, run_in, numbers, height_after}
use Rattle.scalar_expr.proofs.single.run.Given as goal

abbrev pub invariant-loop-step : goal.invariant-loop-step
invariant-loop-step l = record {
  within : l.top ≤ length l.stack;
  safe : AreSafe (length l.t) (length l.stack) (drop l.step-index l.steps) l.top;
  height : height_after (drop l.step-index l.steps) l.top ≡ l.count;
  same : run_in (numbers w128 l.t) (drop l.step-index l.steps) (take l.top l.stack) ≡ run_in (numbers w128 l.t) l.steps [];
}
