use Rattle.sketo_run.proofs.report.report_refusal.Goals as goal

pub returns-in-TooFewWords : goal.returns-in-TooFewWords
returns-in-TooFewWords g c = rw c.in-TooFewWords.is c.report-in-TooFewWords.ensures
