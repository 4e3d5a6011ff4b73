use Rattle.script_run.proofs.LawLemmas.{steps_make_values}
use Rattle.script_run.proofs.laws.each_step_makes_its_value.Goals as goal

pub returns : goal.returns
returns c = steps_make_values c.args.script.now c.as_slice-lines.ensures.typed c.as_slice-lines.ensures.small c.each_step_is_linked.ensures.linked
