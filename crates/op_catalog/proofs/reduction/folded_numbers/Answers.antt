use Rattle.std.proofs.Common.{◌≡◌, ◌+◌, ◌<◌, ◌≤◌, [], ◌∷◌, get_or, arith, rules, pos, sym, ap, length, ◌∙◌}
use Rattle.std.proofs.lemmas.List.{length-map}
use Rattle.op_laws.specs.declared.TheConstants.{MAX_ELEMENTS}
use Rattle.op_laws.specs.declared.width.Width.TheVariants.{W64}
use Rattle.op_laws.specs.Admits.{Admits}
use Rattle.op_laws.specs.Elements.{singles}
use Rattle.op_laws.proofs.FoldLemmas.{fold_or-more}
use Rattle.op_catalog.proofs.NarrowLemmas.{get-singles}
use Rattle.op_catalog.proofs.reduction.folded_numbers.Goals as goal

pub combine-total-requires-clause-second : goal.combine-total-requires-clause-second
combine-total-requires-clause-second g c =
    let lifts = g.met.M.Lifted.lift_laws c.args.op.now in
    let admitted : Admits (W64 ∷ []) c.one-number.result = search rules in
    rw c.lift.ensures (lifts.lifted_fits (W64 ∷ []) c.one-number.result c.requires.takes admitted)

pub loop-i-preserved : goal.loop-i-preserved
loop-i-preserved g c =
    let op = c.args.op.now in
    let lifts = g.met.M.Lifted.lift_laws op in
    let laws = g.met.M.Semi.combine_laws op in
    let numbers = c.args.numbers.now in
    let i = c.loop-i.i in
    let within : i < length (singles numbers) = omega (arith, length-map numbers (λ x. x ∷ [])) in
    let few : length (singles numbers) ≤ MAX_ELEMENTS = omega (arith, c.requires.few, length-map numbers (λ x. x ∷ [])) in
    let at = get-singles numbers i (pos 0) c.loop-i-test.true in
    let next : c.one-number.result ≡ get_or (singles numbers) i [] = rw at (search rules) in
    let admitted : Admits (W64 ∷ []) c.one-number.result = search rules in
    let one : g.M.Lifted.fits op c.lift.result 1 = rw c.lift.ensures (lifts.lifted_fits (W64 ∷ []) c.one-number.result c.requires.takes admitted) in
    let joined = rw (c.loop-i.invariant.value, c.lift.ensures, next) at c.combine-total.ensures in
    record {
      value = joined ∙ sym (fold_or-more lifts laws (g.met.M.Monoid.unit_laws op) (W64 ∷ []) c.requires.takes (singles numbers) i within few c.requires.admitted);
      fits = rw c.combine-total.ensures (laws.combined_fits c.loop-i.total i c.lift.result 1 (omega (arith, c.requires.few)) c.loop-i.invariant.fits one);
    }
