use Rattle.std.proofs.Common.{[], ◌∷◌, rules}
use Rattle.op_laws.specs.declared.width.Width.TheVariants.{W64}
use Rattle.op_laws.specs.Admits.{Admits}
use Rattle.list_fusion.proofs.numbers.fold_first.Goals as goal

pub fold_on-requires-clause-held : goal.fold_on-requires-clause-held
fold_on-requires-clause-held g c =
    let lifts = g.met.M.Lifted.lift_laws c.args.op.now in
    let admitted : Admits (W64 ∷ []) c.one.result = search rules in
    rw c.lift.ensures (lifts.lifted_fits (W64 ∷ []) c.one.result c.requires.takes admitted)
