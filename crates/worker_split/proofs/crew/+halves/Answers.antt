use Rattle.worker_split.specs.Items.{Within}
use Rattle.worker_split.proofs.CrewLemmas.{finished_halves}
use Rattle.worker_split.proofs.crew.+halves.Goals as goal

pub run_workers-returns : goal.run_workers-returns
run_workers-returns g t c =
    finished_halves (Within (g.T.Task.count c.args.task.now) (g.T.Task.gives c.args.task.now)) c.args.board.now c.both_halves.result
    c.args.workers.now _ _ c.both_halves.new.front c.both_halves.new.back c.split_at_mut-front.ensures.value c.both_halves.ensures
