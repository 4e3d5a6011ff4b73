use Rattle.sketo_run.proofs.report.report_unlike.Goals as goal

pub returns : goal.returns
returns g c = rw c.as_bytes.ensures.value at c.report.ensures
