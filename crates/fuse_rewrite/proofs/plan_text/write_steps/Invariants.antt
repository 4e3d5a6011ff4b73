use Rattle.std.proofs.Common.{◌≤◌, ℕ, List, Option, take, map}
use Rattle.std.specs.List.{flat_map}
use Rattle.plain_text.specs.Given.{IsGiven}
use Rattle.plain_text.specs.Pending.{Pending}
use Rattle.script_lang.specs.Views.{statement_of}
use Rattle.fuse_rewrite.specs.PlanText.{step_text}
use Rattle.fuse_rewrite.proofs.plan_text.write_steps.Given as goal

-- the lines up to here are given
pub record IsGivenTo (given : List ℕ) (before after : Pending) (written written' : Option (List ℕ)) (faults faults' : ℕ) : Type 0 where
  pub hands : IsGiven given before after written written'
  pub no_less : faults ≤ faults'

abbrev pub invariant-loop-step : goal.invariant-loop-step
invariant-loop-step g l = IsGivenTo (flat_map (step_text (map statement_of l.lines)) (take l.step-index l.steps)) l.fn.out l.out (g.O.Sink.written l.fn.sink) (g.O.Sink.written l.sink) (g.O.Sink.faults l.fn.sink) (g.O.Sink.faults l.sink)
