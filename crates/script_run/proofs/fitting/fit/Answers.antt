use Rattle.std.proofs.Common.{◌≡◌, ◌<◌, ◌∙◌, List, length, map, ap, arith}
use Rattle.data_text.specs.Named.{section_of}
use Rattle.data_text.specs.Data.{Section}
use Rattle.script_lang.specs.declared.line.Line.{Line}
use Rattle.script_lang.specs.Views.{statement_of}
use Rattle.script_run.specs.Fit.{fit_of}
use Rattle.script_run.proofs.FitLoopLemmas.{fit_goes_on, fit_stops, fit_stopped, inputs_more}
use Rattle.script_run.proofs.fitting.fit.Goals as goal

-- a line at fault
pub returns-in_err-fit_line : goal.returns-in_err-fit_line
returns-in_err-fit_line c =
    let ls : List Line = c.as_slice-lines.result.now in
    let sections : List Section = map section_of c.args.sections.now in
    let e = c.in_err-fit_line.field-0.0 in
    let count : length ls ≡ length c.args.script.now = ap (λ (xs : List Line). length xs) c.as_slice-lines.ensures.lines in
    let lt : c.loop-n.n < length ls = omega (arith, c.loop-n-test.true, c.lines-n-end.ensures.count) in
    fit_stopped c.from_residual.result e (fit_of (map statement_of ls) sections) c.from_residual.ensures.1
    (fit_stops ls sections c.loop-n.inputs c.loop-n.n c.index-lines-n.result e (fit_of (map statement_of ls) sections) lt c.index-lines-n.is c.in_err-fit_line.ensures c.loop-n.invariant.left)
    ∙ ap (λ (xs : List Line). fit_of (map statement_of xs) sections) c.as_slice-lines.ensures.lines

-- one line more
pub loop-n-preserved : goal.loop-n-preserved
loop-n-preserved c =
    let ls : List Line = c.as_slice-lines.result.now in
    let sections : List Section = map section_of c.args.sections.now in
    let count : length ls ≡ length c.args.script.now = ap (λ (xs : List Line). length xs) c.as_slice-lines.ensures.lines in
    let lt : c.loop-n.n < length ls = omega (arith, c.loop-n-test.true, c.lines-n-end.ensures.count) in
    let one = inputs_more c.loop-n.inputs (statement_of c.index-lines-n.result) in
    record {
      few = omega (arith, one, c.inputs_after-inputs.ensures, c.loop-n.invariant.few);
      left = fit_goes_on ls sections c.loop-n.inputs c.inputs_after-inputs.result c.loop-n.n c.index-lines-n.result (fit_of (map statement_of ls) sections) lt c.index-lines-n.is c.in_ok-fit_line.ensures c.inputs_after-inputs.ensures c.loop-n.invariant.left;
    }
