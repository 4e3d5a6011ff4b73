use Rattle.std.proofs.Common.{◌∙◌, List, ap, sym}
use Rattle.std.specs.Prelude.{map}
use Rattle.std.proofs.lemmas.List.Folds.{list_all-map}
use Rattle.script_lang.specs.declared.line.Line.{Line}
use Rattle.script_lang.specs.Views.{statement_of}
use Rattle.script_run.specs.Fit.{takes_list, over_lists}
use Rattle.script_run.proofs.fitting.over_lists.Goals as goal

pub returns : goal.returns
returns c =
    c.all_take_lists.ensures ∙ sym (list_all-map takes_list statement_of c.as_slice.result.now)
    ∙ ap (λ (ls : List Line). over_lists (map statement_of ls)) c.as_slice.ensures.lines
