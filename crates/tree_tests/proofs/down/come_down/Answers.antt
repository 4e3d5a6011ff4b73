use Rattle.std.proofs.Common.{◌≤◌, arith}
use Rattle.op_laws.specs.declared.TheConstants.{MAX_ELEMENTS}
use Rattle.op_laws.specs.Laws.{IsElementOf}
use Rattle.op_laws.specs.Trees.{size}
use Rattle.bridge_contract.proofs.DownLaws.{down_laws_of}
use Rattle.bridge_contract.proofs.AtRootsDownLemmas.{cut_may_fall, values_are}
use Rattle.tree_tests.proofs.down.come_down.Goals as goal

pub join_down-requires-clause-parts : goal.join_down-requires-clause-parts
join_down-requires-clause-parts g c =
    let op = c.args.op.now in let t = c.args.tree.now.tree in
    let nodes = c.len-nodes.ensures.value in let few : size t ≤ MAX_ELEMENTS = omega (arith, c.len-nodes.type_inv) in
    cut_may_fall (g.D.DownOp.downward op) (IsElementOf (g.D.DownOp.takes op)) (g.D.DownOp.fits op) (g.D.DownOp.fits_way op) (down_laws_of (g.met.D.DownOp.downward_laws op)) t c.args._m c.requires.some few c.args._cut.now c.requires.cut c.args.parts.now c.requires.parts

pub returns : goal.returns
returns g c =
    let op = c.args.op.now in let t = c.args.tree.now.tree in
    let nodes = c.len-nodes.ensures.value in let few : size t ≤ MAX_ELEMENTS = omega (arith, c.len-nodes.type_inv) in
    values_are (g.D.DownOp.downward op) (IsElementOf (g.D.DownOp.takes op)) (g.D.DownOp.fits op) (g.D.DownOp.fits_way op) (down_laws_of (g.met.D.DownOp.downward_laws op)) t c.args._m c.requires.some few c.args._cut.now c.requires.cut c.args.c c.requires.value c.args.parts.now c.in_ok-values.values.items c.requires.parts c.in_ok-values.ensures
