use Rattle.std.proofs.Common.{[], map, sym}
use Rattle.std.specs.List.{flat_map}
use Rattle.std.proofs.lemmas.Result.{err_from_is_err_and}
use Rattle.script_lang.specs.TypesText.{statement_text, types_text}
use Rattle.script_lang.specs.declared.line.Line.{Line}
use Rattle.script_lang.specs.Views.{statement_of}
use Rattle.plain_text.proofs.GivenLemmas.{cut_before, cut_after, given_after}
use Rattle.script_lang.proofs.TextLemmas.{text_of_map, given_of, cut_of}
use Rattle.script_lang.proofs.types_text.write_types.Goals as goal

pub returns-in_err-write_nothing-clause-cut_off : goal.returns-in_err-write_nothing-clause-cut_off
returns-in_err-write_nothing-clause-cut_off g c =
    let p = err_from_is_err_and c.from_residual.result c.from_residual.ensures.1 in
    rw p.1 (cut_before [] (types_text (map statement_of c.args.script.now)) _ _ _ _ _ _ c.in_err-write_nothing.ensures.cut_off)

pub returns-clause-given : goal.returns-clause-given
returns-clause-given g c =
    let text = λ (m : Line). statement_text (statement_of m) in
    let lines = rw c.as_slice.ensures.lines at c.write_lines.ensures.given in
    given_of c.write_lines.result (flat_map text c.args.script.now) (types_text (map statement_of c.args.script.now)) _ _ _ _ (sym (text_of_map statement_text statement_of c.args.script.now))
    (given_after c.write_lines.result [] (flat_map text c.args.script.now) _ _ _ _ _ _ c.in_ok-write_nothing.ensures.given lines)

pub returns-clause-cut_off : goal.returns-clause-cut_off
returns-clause-cut_off g c =
    let text = λ (m : Line). statement_text (statement_of m) in
    let lines = rw c.as_slice.ensures.lines at c.write_lines.ensures.cut_off in
    cut_of c.write_lines.result (flat_map text c.args.script.now) (types_text (map statement_of c.args.script.now)) _ _ _ _ _ _ (sym (text_of_map statement_text statement_of c.args.script.now))
    (cut_after c.write_lines.result [] (flat_map text c.args.script.now) _ _ _ _ _ _ _ _ _ c.in_ok-write_nothing.ensures.given c.write_nothing.ensures.never_falls lines)
