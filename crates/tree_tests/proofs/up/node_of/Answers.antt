use Rattle.op_laws.specs.Laws.{IsElementOf}
use Rattle.bridge_contract.proofs.Laws.{laws_of}
use Rattle.tree_tests.proofs.up.node_of.Goals as goal

pub returns : goal.returns
returns g c = rw c.phi.ensures ((laws_of (g.met.K.TreeOp.upward_laws c.args.op.now)).phi_fits c.args.e c.requires)
