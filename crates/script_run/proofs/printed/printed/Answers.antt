use Rattle.std.proofs.Common.{map, Some, ap, ◌∙◌, arith}
use Rattle.script_lang.specs.Syntax.{Statement}
use Rattle.script_lang.specs.Views.{statement_of}
use Rattle.script_run.proofs.LineLemmas.{line_is}
use Rattle.script_run.proofs.PrintedLemmas.{printed_above, printed_once, same_printed, printed_more}
use Rattle.script_run.proofs.printed.printed.Goals as goal

pub print_line-requires-clause-bound : goal.print_line-requires-clause-bound
print_line-requires-clause-bound c n is =
    let i = c.loop-line.line-index in
    let at = line_is c.args.lines.now i c.line-item.result c.loop-line-test.true c.line-item.is in
    (printed_above (map statement_of c.args.lines.now) c.requires.typed i n (at ∙ ap (λ (l : Statement). Some l) is)).1

pub print_line-requires-clause-within : goal.print_line-requires-clause-within
print_line-requires-clause-within c n is =
    let i = c.loop-line.line-index in
    let at = line_is c.args.lines.now i c.line-item.result c.loop-line-test.true c.line-item.is in
    let above = (printed_above (map statement_of c.args.lines.now) c.requires.typed i n (at ∙ ap (λ (l : Statement). Some l) is)).0 in
    let within = c.loop-line-test.true in
    let long = c.loop-line.invariant.long in
    omega arith

pub loop-line-preserved : goal.loop-line-preserved
loop-line-preserved c =
    let lines = map statement_of c.args.lines.now in
    let i = c.loop-line.line-index in
    let l = statement_of c.line-item.result in
    let at = line_is c.args.lines.now i c.line-item.result c.loop-line-test.true c.line-item.is in
    let before = c.loop-line.invariant in
    let same = same_printed lines c.loop-line.table c.args.table.now l (λ n is. before.later i n (omega arith) (at ∙ ap (λ (k : Statement). Some k) is)) in
    record {
      long = c.print_line.auto.table ∙ before.long;
      so_far = printed_more lines c.args.table.now c.loop-line.named.items c.print_line.new.named.items i l before.so_far at (rw same at c.in_ok-print_line.ensures.added);
      later = λ m n le later. c.in_ok-print_line.ensures.others n (printed_once lines c.requires.typed i m n l at (omega arith) later) ∙ before.later m n (omega arith) later;
    }
