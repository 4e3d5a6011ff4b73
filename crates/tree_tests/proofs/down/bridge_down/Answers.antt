use Rattle.std.proofs.Common.{◌≤◌, ◌<◌, ◌∙◌, arith}
use Rattle.op_laws.specs.declared.TheConstants.{MAX_ELEMENTS}
use Rattle.op_laws.specs.Laws.{IsElementOf}
use Rattle.op_laws.specs.Trees.{size}
use Rattle.bridge_contract.proofs.CutLemmas.{elements_of}
use Rattle.bridge_contract.proofs.DownLaws.{down_laws_of}
use Rattle.bridge_contract.proofs.AtRootsLemmas.{made_at, made_length}
use Rattle.bridge_contract.proofs.AtRootsDownLemmas.{value_at, value_fits}
use Rattle.tree_tests.proofs.down.bridge_down.Goals as goal

pub bounds-values-i : goal.bounds-values-i
bounds-values-i g c =
    let same = made_length (value_at (g.D.DownOp.downward c.args._op.now) c.args._c c.args.tree.now.tree) c.args.cut.now c.args.values.now c.requires.values in
    let within = c.requires.within in omega arith

pub returns-clause-value : goal.returns-clause-value
returns-clause-value g c =
    c.index-values-i.is ∙ made_at (value_at (g.D.DownOp.downward c.args._op.now) c.args._c c.args.tree.now.tree) c.args.cut.now c.args.values.now c.args.i c.bridge_of.result c.index-values-i.result c.requires.values c.requires.within c.bridge_of.ensures.same

pub returns-clause-fit : goal.returns-clause-fit
returns-clause-fit g c =
    let op = c.args._op.now in let t = c.args.tree.now.tree in
    let nodes = c.len-nodes.ensures.value in let few : size t ≤ MAX_ELEMENTS = omega (arith, c.len-nodes.type_inv) in
    let each = elements_of (g.D.DownOp.takes op) c.args.tree.now.ty c.requires.takes t c.admitted.ensures in
    let is = c.index-values-i.is ∙ made_at (value_at (g.D.DownOp.downward op) c.args._c t) c.args.cut.now c.args.values.now c.args.i c.bridge_of.result c.index-values-i.result c.requires.values c.requires.within c.bridge_of.ensures.same in
    value_fits (g.D.DownOp.downward op) (IsElementOf (g.D.DownOp.takes op)) (g.D.DownOp.fits op) (g.D.DownOp.fits_way op) (down_laws_of (g.met.D.DownOp.downward_laws op)) c.args._c t c.bridge_of.result.root c.index-values-i.result (c.bridge_of.ensures.bridge).within few each c.requires.first is
