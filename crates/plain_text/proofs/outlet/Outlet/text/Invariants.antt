use Rattle.std.proofs.Common.{◌≤◌, ℕ, List, Option, take, length, ◌-◌}
use Rattle.plain_text.specs.Pending.{Pending}
use Rattle.plain_text.specs.Given.{IsGiven}
use Rattle.plain_text.proofs.outlet.Outlet.text.Given as goal

-- the bytes up to here are given
pub record IsGivenTo (bytes : List ℕ) (at : ℕ) (before after : Pending) (written written' : Option (List ℕ)) (faults faults' : ℕ) : Type 0 where
  pub within : at ≤ length bytes
  pub given : IsGiven (take at bytes) before after written written'
  pub no_less : faults ≤ faults'

abbrev pub invariant-loop-at : goal.invariant-loop-at
invariant-loop-at g l = IsGivenTo l.bytes l.at l.fn.self l.self (g.O.Sink.written l.fn.sink) (g.O.Sink.written l.sink) (g.O.Sink.faults l.fn.sink) (g.O.Sink.faults l.sink)

abbrev pub decreases-loop-at : goal.decreases-loop-at
decreases-loop-at g l = length l.bytes - l.at
