use Rattle.script_run.proofs.FitLemmas.{content-found, content-missing}
use Rattle.script_run.proofs.fitting.value_under.Goals as goal

pub returns-in_default : goal.returns-in_default
returns-in_default c = content-missing c.args.name.now c.args.sections.now c.in_default.ensures.place

pub returns : goal.returns
returns c = content-found c.args.name.now c.args.sections.now c.in-Some.i c.at.result.now c.in-Some.ensures.place c.at.ensures.value
