use Rattle.bridge_contract.proofs.AtRootsLemmas.{bridge_is}
use Rattle.tree_tests.proofs.trees.bridge_of.Goals as goal

pub returns-clause-bridge : goal.returns-clause-bridge
returns-clause-bridge c = bridge_is c.args._m c.requires.some c.args._tree.now.tree c.args.cut.now c.args.i c.bridge_in.result c.requires.cut c.requires.within c.bridge_in.ensures
