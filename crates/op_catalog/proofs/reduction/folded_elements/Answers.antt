use Rattle.std.proofs.Common.{◌≡◌, ◌+◌, ◌<◌, ◌≤◌, ◌^◌, [], get_or, arith, sym, length, ◌∙◌}
use Rattle.op_laws.specs.declared.TheConstants.{MAX_ELEMENTS}
use Rattle.op_laws.proofs.FoldLemmas.{fold_or-more}
use Rattle.op_catalog.proofs.reduction.folded_elements.Goals as goal

pub loop-i-preserved : goal.loop-i-preserved
loop-i-preserved g c =
    let op = c.args.op.now in
    let lifts = g.met.M.Lifted.lift_laws op in
    let laws = g.met.M.Semi.combine_laws op in
    let few : c.loop-i.i + 1 ≤ MAX_ELEMENTS = omega arith in
    let all_few : length c.args.list.now.items ≤ MAX_ELEMENTS = omega arith in
    let one : g.M.Lifted.fits op c.lift.result 1 = rw c.lift.ensures (lifts.lifted_fits c.args.list.now.ty c.at.result c.requires c.at.ensures.admitted) in
    let joined = rw (c.loop-i.invariant.value, c.lift.ensures, c.at.ensures.value) at c.combine-total.ensures in
    record {
      value = joined ∙ sym (fold_or-more lifts laws (g.met.M.Monoid.unit_laws op) c.args.list.now.ty c.requires c.args.list.now.items c.loop-i.i (omega arith) all_few c.admitted.ensures);
      fits = rw c.combine-total.ensures (laws.combined_fits c.loop-i.total c.loop-i.i c.lift.result 1 few c.loop-i.invariant.fits one);
    }
