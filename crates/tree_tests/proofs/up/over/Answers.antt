use Rattle.op_laws.specs.Laws.{IsElementOf}
use Rattle.tree_tests.proofs.up.over.Goals as goal

pub returns : goal.returns
returns g c =
    rw c.psi_n.ensures ((g.met.K.TreeOp.upward_laws c.args.op.now).node_fits c.args.x c.args.nx c.args.g c.args.n c.args.y c.args.ny c.requires.few c.requires.left c.requires.middle c.requires.right)
