use Rattle.sketo_run.proofs.OutletLemmas.{part_out}
use Rattle.sketo_run.proofs.print.put_answer.Goals as goal

pub returns-clause-front : goal.returns-clause-front
returns-clause-front g c = part_out c.finish.result _ _ _ _ _ (rw c.new-outlet.ensures at c.in_ok-write.ensures.given) c.finish.ensures.front
