use Rattle.std.proofs.Common.{arith}
use Rattle.std.proofs.lemmas.Result.{err_from_is_err_and}
use Rattle.plain_text.proofs.GivenLemmas.{loop_cut}
use Rattle.plain_text.proofs.outlet.Outlet.texts.Goals as goal

pub returns-in_err-text-clause-cut_off : goal.returns-in_err-text-clause-cut_off
returns-in_err-text-clause-cut_off g c =
    let p = err_from_is_err_and c.from_residual.result c.from_residual.ensures.1 in
    rw p.1 (loop_cut (λ t. t.now) c.args.texts.now c.loop-text.text-index _ _ _ _ _ _ _ _ _ _ (omega arith) c.loop-text.invariant.hands c.loop-text.invariant.no_less c.in_err-text.ensures.cut_off)
