use Rattle.std.proofs.Common.{◌≤◌, arith, sym, subst}
use Rattle.op_laws.specs.declared.TheConstants.{MAX_ELEMENTS}
use Rattle.op_laws.specs.Laws.{IsElementOf}
use Rattle.op_laws.specs.Trees.{size}
use Rattle.bridge_contract.specs.SumsOf.{SumsOf}
use Rattle.bridge_contract.specs.AtRoots.{ArePairs}
use Rattle.bridge_contract.proofs.CutLemmas.{elements_of}
use Rattle.tree_tests.proofs.up.pairs.Goals as goal

pub join_below-requires : goal.join_below-requires
join_below-requires g c =
    let op = c.args.op.now in let t = c.args.tree.now.tree in
    let nodes = c.len-nodes.ensures.value in let few : size t ≤ MAX_ELEMENTS = omega (arith, c.len-nodes.type_inv) in
    let each = elements_of (g.K.TreeOp.takes op) c.args.tree.now.ty c.requires.takes t c.admitted.ensures in
    let sums = subst (λ bs. SumsOf (g.K.TreeOp.upward op) (IsElementOf (g.K.TreeOp.takes op)) (g.K.TreeOp.fits op) (g.K.TreeOp.fits_hole op) t bs c.args.parts.now) c.requires.cut c.requires.parts in
    c.summaries_join.ensures.may_join t c.args._m c.args.parts.now c.requires.some few each sums

pub returns : goal.returns
returns g c =
    let op = c.args.op.now in let t = c.args.tree.now.tree in
    let nodes = c.len-nodes.ensures.value in let few : size t ≤ MAX_ELEMENTS = omega (arith, c.len-nodes.type_inv) in
    let each = elements_of (g.K.TreeOp.takes op) c.args.tree.now.ty c.requires.takes t c.admitted.ensures in
    let sums = subst (λ bs. SumsOf (g.K.TreeOp.upward op) (IsElementOf (g.K.TreeOp.takes op)) (g.K.TreeOp.fits op) (g.K.TreeOp.fits_hole op) t bs c.args.parts.now) c.requires.cut c.requires.parts in
    subst (λ bs. ArePairs (g.K.TreeOp.upward op) t bs c.in_ok-pairs.pairs.items) (sym c.requires.cut)
    (c.summaries_join.ensures.pairs t c.args._m c.args.parts.now c.in_ok-pairs.pairs.items c.requires.some few each sums c.in_ok-pairs.ensures)
