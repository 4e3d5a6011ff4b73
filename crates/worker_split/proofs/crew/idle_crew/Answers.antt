use Rattle.std.proofs.Common.{sym, subst}
use Rattle.worker_split.specs.Passes.{ArePassesOf, AllFresh}
use Rattle.worker_split.proofs.CrewLemmas.{all_idle}
use Rattle.worker_split.proofs.crew.idle_crew.Goals as goal

pub returns-clause-idle : goal.returns-clause-idle
returns-clause-idle g c =
    all_idle c.in_ok-board.board c.in_ok-crew.crew.items
    (subst (ArePassesOf c.in_ok-board.board) (sym c.in_ok-crew.ensures) c.in_ok-board.ensures.passes)
    (subst AllFresh (sym c.in_ok-crew.ensures) c.in_ok-board.ensures.fresh)
