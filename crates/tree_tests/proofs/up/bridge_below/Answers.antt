use Rattle.std.proofs.Common.{◌<◌, ◌∙◌, arith, sym, subst}
use Rattle.bridge_contract.specs.AtRoots.{pair_below}
use Rattle.bridge_contract.specs.OwnNodes.{AreBelow}
use Rattle.bridge_contract.proofs.AtRootsLemmas.{made_at, made_length, pair_fits}
use Rattle.tree_tests.proofs.up.bridge_below.Goals as goal

pub bounds-pairs-i : goal.bounds-pairs-i
bounds-pairs-i g c =
    let k = g.K.TreeOp.upward c.args._op.now in let t = c.args.tree.now.tree in
    let same = made_length (λ b. pair_below k t b.hole) c.args.cut.now c.args.pairs.now c.requires.pairs in
    let within = c.requires.within in omega arith

pub returns-clause-below : goal.returns-clause-below
returns-clause-below g c =
    let k = g.K.TreeOp.upward c.args._op.now in let t = c.args.tree.now.tree in
    subst (AreBelow k t c.bridge_of.result.hole)
    (sym (c.index-pairs-i.is ∙ made_at (λ b. pair_below k t b.hole) c.args.cut.now c.args.pairs.now c.args.i c.bridge_of.result c.index-pairs-i.result c.requires.pairs c.requires.within c.bridge_of.ensures.same))
    (pair_fits k t c.bridge_of.result.hole)
