use Rattle.std.proofs.Common.{◌≡◌, ◌≤◌, true, IfSome, ℕ, List, Option, Bool, length}
use Rattle.outside.specs.Outside.{NoneFell, OthersKept}
use Rattle.sketo_run.specs.Reads.{TellsStarted}
use Rattle.sketo_run.proofs.FrontLemmas.{Parts}
use Rattle.sketo_run.proofs.script_text.script_text.Given as goal

pub record IsReading (tells : Type 0) (ready : Bool) (content before : List ℕ → Option (List ℕ)) (started : Option (List ℕ)) (name : List ℕ) (old new : List ℕ → ℕ) (left : Option (List ℕ)) (counter : ℕ) (had : List ℕ) : Type 0 where
  pub ready_now : ready ≡ true
  pub same : content ≡ before
  pub of_name : IfSome started (λ n. n ≡ name)
  pub none_fell : NoneFell old new
  pub others : tells → OthersKept before name old new
  pub each_moves : counter ≤ length had
  pub fits : length had ≤ 65537
  pub parts : Parts (before name) left had

abbrev pub invariant-loop : goal.invariant-loop
invariant-loop g l = IsReading (TellsStarted g.F.Shelf.ready g.F.Shelf.started) (g.F.Shelf.ready l.shelf) (g.F.Shelf.content l.shelf) (g.F.Shelf.content l.fn.shelf) (g.F.Shelf.started l.shelf) l.name (g.F.Shelf.faults l.fn.shelf) (g.F.Shelf.faults l.shelf) (g.F.Shelf.left l.shelf) l.counter l.bytes.items
