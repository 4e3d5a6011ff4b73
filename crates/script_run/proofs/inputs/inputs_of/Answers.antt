use Rattle.std.proofs.Common.{map, ◌∙◌, arith}
use Rattle.std.proofs.lemmas.List.{length-map}
use Rattle.data_text.specs.Named.{section_of}
use Rattle.script_lang.specs.Views.{statement_of}
use Rattle.script_run.proofs.LineLemmas.{line_is}
use Rattle.script_run.proofs.InputLemmas.{IsThere, reads_list, same_value, other_name, one_more, all_held}
use Rattle.script_run.proofs.inputs.inputs_of.Goals as goal

pub take_input-requires-clause-list : goal.take_input-requires-clause-list
take_input-requires-clause-list c =
    let lines = map statement_of c.args.lines.now in
    let n = c.loop-line.line-index in
    let line = c.line-item.result in
    let at = line_is c.args.lines.now n line c.loop-line-test.true c.line-item.is in
    reads_list lines (map section_of c.args.sections) (map section_of c.loop-line.rest.items) n (statement_of line) c.requires.fits at (λ b like here. c.loop-line.invariant.later n b like (omega arith) here)

pub loop-line-preserved : goal.loop-line-preserved
loop-line-preserved c =
    let lines = map statement_of c.args.lines.now in
    let sections = map section_of c.args.sections in
    let rest = map section_of c.loop-line.rest.items in
    let n = c.loop-line.line-index in
    let line = c.line-item.result in
    let at = line_is c.args.lines.now n line c.loop-line-test.true c.line-item.is in
    let there : IsThere lines sections rest n = λ b like here. c.loop-line.invariant.later n b like (omega arith) here in
    record {
      table = c.in_ok-push.ensures.items ∙ one_more lines sections c.loop-line.table.items c.take_input.result n (statement_of line) c.loop-line.invariant.table at (c.take_input.ensures.value ∙ same_value lines sections rest n (statement_of line) at there);
      of_w64 = c.take_input.ensures.of_w64;
      later = λ m b like le here. c.take_input.ensures.others b.name (other_name lines sections n m (statement_of line) b like c.requires.typed at (omega arith) here) ∙ c.loop-line.invariant.later m b like (omega arith) here;
    }

pub returns-clause-held : goal.returns-clause-held
returns-clause-held c =
    let lines = map statement_of c.args.lines.now in
    let same = length-map c.args.lines.now statement_of in
    let past = c.loop-line-test.false in
    all_held lines (map section_of c.args.sections) c.loop-line.table.items c.loop-line.line-index c.loop-line.invariant.table (omega arith)
