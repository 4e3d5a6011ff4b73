use Rattle.op_laws.specs.Laws.{IsElementOf}
use Rattle.bridge_contract.proofs.AllBridgesLemmas.{summaries_join}
use Rattle.bridge_contract.proofs.together.summaries_join.Goals as goal

pub returns : goal.returns
returns g c =
    let op = c.args._op.now in
    summaries_join (g.K.TreeOp.upward op) (IsElementOf (g.K.TreeOp.takes op)) (g.K.TreeOp.fits op) (g.K.TreeOp.fits_hole op)
