use Rattle.std.proofs.Common.{◌≤◌, ℕ, List, Option, take}
use Rattle.std.specs.List.{flat_map}
use Rattle.plain_text.specs.Given.{IsGiven}
use Rattle.plain_text.specs.Pending.{Pending}
use Rattle.plain_text.proofs.outlet.Outlet.texts.Given as goal

-- the texts up to here are given
pub record IsGivenTo (given : List ℕ) (before after : Pending) (written written' : Option (List ℕ)) (faults faults' : ℕ) : Type 0 where
  pub hands : IsGiven given before after written written'
  pub no_less : faults ≤ faults'

abbrev pub invariant-loop-text : goal.invariant-loop-text
invariant-loop-text g l = IsGivenTo (flat_map (λ t. t.now) (take l.text-index l.texts)) l.fn.self l.self (g.O.Sink.written l.fn.sink) (g.O.Sink.written l.sink) (g.O.Sink.faults l.fn.sink) (g.O.Sink.faults l.sink)
