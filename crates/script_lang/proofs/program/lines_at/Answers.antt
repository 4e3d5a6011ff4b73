use Rattle.std.proofs.Common.{◌+◌, map, sym, ap, ◌∙◌, List}
use Rattle.std.proofs.lemmas.Result.{err_from_is_err_and}
use Rattle.std.proofs.lemmas.List.{map_push}
use Rattle.script_words.specs.Lines.{Source}
use Rattle.script_lang.specs.Script.{lines_at}
use Rattle.script_lang.specs.Views.{statement_of}
use Rattle.script_lang.proofs.ListLemmas.{drop_is, drop_all}
use Rattle.script_lang.proofs.FoldLemmas.{lines_next, lines_fail, lines_done}
use Rattle.script_lang.proofs.SmallLemmas.{one_more_small}
use Rattle.script_lang.proofs.program.lines_at.Goals as goal

-- a line at fault
pub returns-in_err-line-clause-gives : goal.returns-in_err-line-clause-gives
returns-in_err-line-clause-gives c =
    let p = err_from_is_err_and c.from_residual.result c.from_residual.ensures.1 in
    let ls = map statement_of c.loop-source.lines.items in
    let d = drop_is c.args.sources.now c.loop-source.source-index c.source-item.result c.loop-source-test.true c.source-item.is in
    rw (p.1, p.2) (lines_fail c.in_err-line.field-0.0 ls c.source-item.result _ _ (rw c.deref.ensures.value at c.in_err-line.ensures.gives)
    (sym (ap (λ (ss : List Source). lines_at ls ss) d) ∙ c.loop-source.invariant.rest))

-- one line more
pub loop-source-preserved : goal.loop-source-preserved
loop-source-preserved c =
    let ls = map statement_of c.loop-source.lines.items in
    let d = drop_is c.args.sources.now c.loop-source.source-index c.source-item.result c.loop-source-test.true c.source-item.is in
    record {
      few = c.in_ok-push.ensures.len ∙ ap (λ n. n + 1) c.loop-source.invariant.few;
      rest = rw (c.in_ok-push.ensures.items, map_push statement_of c.loop-source.lines.items c.in_ok-line.line)
          (sym (lines_next ls c.source-item.result _ (statement_of c.in_ok-line.line) (rw c.deref.ensures.value at c.in_ok-line.ensures.gives))
          ∙ sym (ap (λ (ss : List Source). lines_at ls ss) d) ∙ c.loop-source.invariant.rest);
      small = rw (c.in_ok-push.ensures.items, map_push statement_of c.loop-source.lines.items c.in_ok-line.line)
          (one_more_small ls (statement_of c.in_ok-line.line) c.loop-source.invariant.small c.in_ok-line.ensures.small);
    }

-- no line is left
pub returns-clause-gives : goal.returns-clause-gives
returns-clause-gives c = lines_done (map statement_of c.loop-source.lines.items) _ _ (drop_all c.args.sources.now c.loop-source.source-index c.loop-source-test.false) c.loop-source.invariant.rest
