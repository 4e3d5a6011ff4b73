use Rattle.std.proofs.Common.{◌≡◌, ◌+◌, [], ◌∷◌, get_or, drop, refl, pos, ap, sym, subst, arith, rules, ◌∙◌}
use Rattle.std.specs.List.{fold}
use Rattle.op_laws.specs.declared.width.Width.TheVariants.{W64}
use Rattle.op_laws.specs.Admits.{Admits}
use Rattle.op_laws.specs.Elements.{singles}
use Rattle.op_laws.specs.Folds.{step}
use Rattle.list_fusion.proofs.NumberLemmas.{singles-drop}
use Rattle.list_fusion.proofs.numbers.fold_on.Goals as goal

pub combine-total-requires-clause-second : goal.combine-total-requires-clause-second
combine-total-requires-clause-second g c =
    let lifts = g.met.M.Lifted.lift_laws c.args.op.now in
    let admitted : Admits (W64 ∷ []) c.one-number.result = search rules in
    rw c.lift.ensures (lifts.lifted_fits (W64 ∷ []) c.one-number.result c.requires.takes admitted)

pub loop-i-preserved : goal.loop-i-preserved
loop-i-preserved g c =
    let op = c.args.op.now in
    let lifted = g.M.Lifted.lifted op in
    let combined = g.M.Semi.combined op in
    let lifts = g.met.M.Lifted.lift_laws op in
    let laws = g.met.M.Semi.combine_laws op in
    let numbers = c.args.numbers.now in
    let i = c.loop-i.i in
    let x = get_or numbers i (pos 0) in
    let number : c.one-number.result ≡ x ∷ [] = search rules in
    let admitted : Admits (W64 ∷ []) c.one-number.result = search rules in
    let one : g.M.Lifted.fits op c.lift.result 1 = rw c.lift.ensures (lifts.lifted_fits (W64 ∷ []) c.one-number.result c.requires.takes admitted) in
    let weight : c.args.n + i + 1 ≡ c.args.n + (i + 1) = omega arith in
    record {
      value = ap (λ v. fold (step lifted combined) v (singles (drop (i + 1) numbers))) (c.combine-total.ensures ∙ ap (combined c.loop-i.total) (c.lift.ensures ∙ ap lifted number))
          ∙ ap (fold (step lifted combined) c.loop-i.total) (sym (singles-drop numbers i x c.loop-i-test.true refl))
          ∙ c.loop-i.invariant.value;
      fits = subst (λ m. g.M.Lifted.fits op c.combine-total.result m) weight
          (rw c.combine-total.ensures (laws.combined_fits c.loop-i.total (c.args.n + i) c.lift.result 1 (omega arith) c.loop-i.invariant.fits one));
    }
