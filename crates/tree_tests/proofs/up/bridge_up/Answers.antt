use Rattle.std.proofs.Common.{◌<◌, ◌∙◌, arith}
use Rattle.bridge_contract.proofs.AtRootsLemmas.{made_at, made_length, fold_at}
use Rattle.tree_tests.proofs.up.bridge_up.Goals as goal

pub bounds-values-i : goal.bounds-values-i
bounds-values-i g c =
    let same = made_length (fold_at (g.K.TreeOp.upward c.args._op.now) c.args.tree.now.tree) c.args.cut.now c.args.values.now c.requires.values in
    let within = c.requires.within in omega arith

pub returns-clause-value : goal.returns-clause-value
returns-clause-value g c =
    c.index-values-i.is ∙ made_at (fold_at (g.K.TreeOp.upward c.args._op.now) c.args.tree.now.tree) c.args.cut.now c.args.values.now c.args.i c.bridge_of.result c.index-values-i.result c.requires.values c.requires.within c.bridge_of.ensures.same
