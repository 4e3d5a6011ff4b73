use Rattle.std.proofs.Common.{IsTrue}
use Rattle.text_tests.proofs.devices.told.Given as goal

abbrev pub invariant-loop : goal.invariant-loop
invariant-loop g l = IsTrue (g.S.Shelf.ready l.shelf)
