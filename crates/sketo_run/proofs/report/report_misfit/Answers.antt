use Rattle.sketo_run.proofs.report.report_misfit.Goals as goal

pub returns-in-NotLike : goal.returns-in-NotLike
returns-in-NotLike g c =
    rw c.in-NotLike.is (rw (c.input_name-in-NotLike.ensures, c.like_name.ensures, c.as_slice-lines.ensures.lines) at c.report_unlike.ensures)
