use Rattle.std.proofs.Common.{FitsSigned, arith}
use Rattle.std.specs.Int.{w64}
use Rattle.scalar_expr.specs.Steps.{made}
use Rattle.scalar_expr.specs.Lanes.{number_at}
use Rattle.scalar_expr.proofs.LaneLemmas.{IsWritten, write_next}
use Rattle.scalar_expr.proofs.NarrowLemmas.{made_at}
use Rattle.scalar_expr.proofs.narrow.fill.Goals as goal

pub loop-i-preserved : goal.loop-i-preserved
loop-i-preserved c =
    let i = c.loop-i.i in
    let inv = c.loop-i.invariant in
    let x : FitsSigned w64 c.number-x.result = record { sfits = c.number-x.type_inv } in
    let y : FitsSigned w64 c.number-y.result = record { sfits = c.number-y.type_inv } in
    let r : FitsSigned w64 c.narrow_made.result = record { sfits = c.narrow_made.type_inv } in
    let next = write_next c.args.out.now (λ j. made w64 c.args.op (number_at c.args.a c.args.out.now j) (number_at c.args.b c.args.out.now j)) c.loop-i.out i _ (omega arith) inv.long inv.done inv.rest
    (made_at c.args.op c.args.a c.args.b c.loop-i.out c.args.out.now i _ _ _ (inv.rest i (omega arith)) x y r c.number-x.ensures c.number-y.ensures c.narrow_made.ensures) in
    record { long = next.long; done = next.done; rest = next.rest }
