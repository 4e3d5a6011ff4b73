use Rattle.op_laws.specs.Laws.{IsElementOf}
use Rattle.bridge_contract.proofs.DownLaws.{down_laws_of}
use Rattle.bridge_contract.proofs.AllBridgesLemmas.{ways_join}
use Rattle.bridge_contract.proofs.together.ways_join.Goals as goal

pub returns : goal.returns
returns g c =
    let op = c.args._op.now in
    ways_join (g.D.DownOp.downward op) (IsElementOf (g.D.DownOp.takes op)) (g.D.DownOp.fits op) (g.D.DownOp.fits_way op) (down_laws_of (g.met.D.DownOp.downward_laws op))
