use Rattle.std.proofs.Common.{◌≡◌, ◌-◌}
use Rattle.worker_split.specs.Items.{AllGiven, Within, tickets_of}
use Rattle.worker_split.proofs.CrewLemmas.{above}
use Rattle.worker_split.proofs.crew.work.Given as goal

abbrev pub invariant-loop-ticket : goal.invariant-loop-ticket
invariant-loop-ticket g l = record {
  on_board : l.worker.pass.board ≡ l.board;
  number : l.worker.pass.number ≡ l.fn.worker.pass.number;
  tickets : tickets_of l.items.items ≡ l.worker.pass.tickets;
  given : AllGiven (Within (g.T.Task.count l.task) (g.T.Task.gives l.task)) l.items.items;
}

abbrev pub decreases-loop-ticket : goal.decreases-loop-ticket
decreases-loop-ticket g l = l.board.n - above l.worker.pass.tickets
