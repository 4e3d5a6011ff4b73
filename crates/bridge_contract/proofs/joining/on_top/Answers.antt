use Rattle.std.proofs.Common.{◌-◌, ap, length, slice_index_or}
use Rattle.bridge_contract.proofs.JoinLemmas.{tops_are}
use Rattle.bridge_contract.proofs.joining.on_top.Goals as goal

pub returns-in-Hole : goal.returns-in-Hole
returns-in-Hole g c =
    let op = c.args._op.now in let st = c.args.stack.now in
    tops_are c.args.part.now (g.K.TreeOp.fits op) (g.K.TreeOp.fits_hole op) c.in-Hole.g c.in-Hole.n st _ _ c.in-Hole.is c.requires
    (ap (slice_index_or st (length st - 1)) c.index-stack-count.is) (ap (slice_index_or st (length st - 2)) c.index-stack-count-in-Hole.is)
