use Rattle.std.proofs.Common.{◌∙◌, sym}
use Rattle.script_lang.proofs.ListLemmas.{any_of_map}
use Rattle.script_lang.proofs.names.is_bound.Goals as goal

pub returns : goal.returns
returns c = c.some_binds.ensures ∙ sym (any_of_map _ _ c.args.lines.now)
