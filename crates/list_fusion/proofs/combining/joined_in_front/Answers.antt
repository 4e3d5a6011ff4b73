use Rattle.std.proofs.Common.{◌≡◌, ◌+◌, subst, arith}
use Rattle.list_fusion.proofs.combining.joined_in_front.Goals as goal

pub returns-in-Some-clause-fits : goal.returns-in-Some-clause-fits
returns-in-Some-clause-fits g c =
    let laws = g.met.M.Semi.combine_laws c.args.op.now in
    let held = rw c.in-Some.is at c.requires.held in
    let weight : 1 + c.args.n ≡ c.args.n + 1 = omega arith in
    rw c.combine.ensures (subst (λ m. g.M.Lifted.fits c.args.op.now (g.M.Semi.combined c.args.op.now c.args.e c.in-Some.c) m) weight (laws.combined_fits c.args.e 1 c.in-Some.c c.args.n (omega arith) c.requires.one held))
