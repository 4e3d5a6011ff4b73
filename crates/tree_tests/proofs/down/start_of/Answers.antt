use Rattle.std.proofs.Common.{◌≡◌, arith, subst, sym, to_z, of_z, w64}
use Rattle.std.proofs.lemmas.Int.{to_z-of_z}
use Rattle.tree_tests.proofs.down.start_of.Goals as goal

pub returns : goal.returns
returns g c =
    let op = c.args.op.now in
    let same : to_z w64 (of_z w64 c.args.c) ≡ c.args.c = grind (arith, to_z-of_z) in
    let fit = (g.met.D.DownOp.downward_laws op).start_fits c.args.c c.requires in
    rw c.start.ensures (subst (λ z. g.D.DownOp.fits op ((g.D.DownOp.downward op).start z) 1) (sym same) fit)
