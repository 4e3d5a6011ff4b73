use Rattle.std.proofs.Common.{arith}
use Rattle.std.proofs.lemmas.Result.{err_from_is_err_and}
use Rattle.script_lang.specs.TypesText.{statement_text}
use Rattle.script_lang.specs.declared.line.Line.{Line}
use Rattle.script_lang.specs.Views.{statement_of}
use Rattle.plain_text.proofs.GivenLemmas.{loop_cut}
use Rattle.script_lang.proofs.types_text.write_lines.Goals as goal

pub returns-in_err-write_line-clause-cut_off : goal.returns-in_err-write_line-clause-cut_off
returns-in_err-write_line-clause-cut_off g c =
    let p = err_from_is_err_and c.from_residual.result c.from_residual.ensures.1 in
    rw p.1 (loop_cut (λ (m : Line). statement_text (statement_of m)) c.args.lines.now c.loop-line.line-index c.line-item.result _ _ _ _ _ _ _ _ _ (omega arith) c.loop-line.invariant.hands c.loop-line.invariant.no_less (rw c.line-item.is at c.in_err-write_line.ensures.cut_off))
