use Rattle.std.proofs.Common.{◌∙◌, sym}
use Rattle.data_text.proofs.NamedLemmas.{list_any-map}
use Rattle.script_run.proofs.needs.is_printed.Goals as goal

pub returns : goal.returns
returns c = c.some_prints.ensures ∙ sym (list_any-map _ _ c.args.lines.now)
