use Rattle.std.proofs.Common.{◌≤◌, arith, subst, sym}
use Rattle.op_laws.specs.declared.TheConstants.{MAX_ELEMENTS}
use Rattle.op_laws.specs.Laws.{IsElementOf}
use Rattle.op_laws.specs.Trees.{size, sub_at}
use Rattle.bin_tree.proofs.TreeLemmas.{within_at}
use Rattle.bridge_contract.proofs.Contracting.{fold_fits}
use Rattle.bridge_contract.proofs.CutLemmas.{elements_of, each_sub}
use Rattle.bridge_contract.proofs.Laws.{laws_of}
use Rattle.tree_tests.proofs.up.finished.Goals as goal

pub finish-requires : goal.finish-requires
finish-requires g c =
    let op = c.args.op.now in let t = c.args.tree.now.tree in let takes = IsElementOf (g.K.TreeOp.takes op) in
    let nodes = c.len-nodes.ensures.value in let few : size t ≤ MAX_ELEMENTS = omega (arith, c.len-nodes.type_inv) in
    let each = elements_of (g.K.TreeOp.takes op) c.args.tree.now.ty c.requires.takes t c.admitted.ensures in
    let inside = within_at t c.args.place c.requires.within in
    let fold = fold_fits (g.K.TreeOp.upward op) takes (g.K.TreeOp.fits op) (g.K.TreeOp.fits_hole op) (laws_of (g.met.K.TreeOp.upward_laws op)) (sub_at t c.args.place) (each_sub takes t c.args.place c.requires.within each) (omega arith) in
    let here = subst (λ v. g.K.TreeOp.fits op v (size (sub_at t c.args.place))) (sym c.requires.value) fold in
    subst (λ n. g.K.TreeOp.fits op c.args.value n) (sym c.size.ensures.value) here
