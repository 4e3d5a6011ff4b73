use Rattle.std.proofs.Common.{◌≤◌, arith}
use Rattle.op_laws.specs.declared.TheConstants.{MAX_ELEMENTS}
use Rattle.op_laws.specs.Laws.{IsElementOf}
use Rattle.op_laws.specs.Trees.{size}
use Rattle.bridge_contract.proofs.CutLemmas.{elements_of}
use Rattle.bridge_contract.proofs.AtRootsLemmas.{cut_may_join, folds_are}
use Rattle.tree_tests.proofs.up.joined.Goals as goal

pub join_up-requires : goal.join_up-requires
join_up-requires g c =
    let op = c.args.op.now in let t = c.args.tree.now.tree in
    let nodes = c.len-nodes.ensures.value in let few : size t ≤ MAX_ELEMENTS = omega (arith, c.len-nodes.type_inv) in
    let each = elements_of (g.K.TreeOp.takes op) c.args.tree.now.ty c.requires.takes t c.admitted.ensures in
    cut_may_join (g.K.TreeOp.upward op) (IsElementOf (g.K.TreeOp.takes op)) (g.K.TreeOp.fits op) (g.K.TreeOp.fits_hole op) t c.args._m c.requires.some few each c.args._cut.now c.requires.cut c.args.parts.now c.requires.parts

pub returns : goal.returns
returns g c =
    let op = c.args.op.now in let t = c.args.tree.now.tree in
    let nodes = c.len-nodes.ensures.value in let few : size t ≤ MAX_ELEMENTS = omega (arith, c.len-nodes.type_inv) in
    let each = elements_of (g.K.TreeOp.takes op) c.args.tree.now.ty c.requires.takes t c.admitted.ensures in
    folds_are (g.K.TreeOp.upward op) (IsElementOf (g.K.TreeOp.takes op)) (g.K.TreeOp.fits op) (g.K.TreeOp.fits_hole op) t c.args._m c.requires.some few each c.args._cut.now c.requires.cut c.args.parts.now c.in_ok-values.values.items c.requires.parts c.in_ok-values.ensures
