use Rattle.std.proofs.Common.{FitsSigned, arith}
use Rattle.std.specs.Int.{w128}
use Rattle.scalar_expr.specs.Steps.{made}
use Rattle.scalar_expr.specs.Lanes.{wide_number_at}
use Rattle.scalar_expr.proofs.LaneLemmas.{IsWritten, write_next}
use Rattle.scalar_expr.proofs.WideLemmas.{made_at}
use Rattle.scalar_expr.proofs.wide.fill.Goals as goal

pub loop-i-preserved : goal.loop-i-preserved
loop-i-preserved c =
    let i = c.loop-i.i in
    let inv = c.loop-i.invariant in
    let x : FitsSigned w128 c.number-x.result = record { sfits = c.number-x.type_inv } in
    let y : FitsSigned w128 c.number-y.result = record { sfits = c.number-y.type_inv } in
    let r : FitsSigned w128 c.wide_made.result = record { sfits = c.wide_made.type_inv } in
    let next = write_next c.args.out.now (λ j. made w128 c.args.op (wide_number_at c.args.a c.args.out.now j) (wide_number_at c.args.b c.args.out.now j)) c.loop-i.out i _ (omega arith) inv.long inv.done inv.rest
    (made_at c.args.op c.args.a c.args.b c.loop-i.out c.args.out.now i _ _ _ (inv.rest i (omega arith)) x y r c.number-x.ensures c.number-y.ensures c.wide_made.ensures) in
    record { long = next.long; done = next.done; rest = next.rest }
