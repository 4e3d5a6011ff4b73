use Rattle.std.proofs.Common.{arith, rules, subst, sym}
use Rattle.list_tests.proofs.operators.PairListVisitor.visit.Goals as goal

pub finish-requires : goal.finish-requires
finish-requires g c =
    let first : g.M.Lifted.fits c.args.op.now c.lift.result 1 = search rules in
    let second : g.M.Lifted.fits c.args.op.now c.lift-2.result 1 = search rules in
    let both = (g.met.M.Semi.combine_laws c.args.op.now).combined_fits c.lift.result 1 c.lift-2.result 1 (omega arith) first second in
    subst (λ x. g.M.Lifted.fits c.args.op.now x 2) (sym c.combine-both.ensures) both
