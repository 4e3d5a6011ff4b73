use Rattle.std.proofs.Common.{Some, length, ap, sym, subst, ◌∙◌}
use Rattle.std.specs.Option.{option_map}
use Rattle.matrix_skel.proofs.reduction.reduce_by.Goals as goal

pub total-held-requires-clause-count : goal.total-held-requires-clause-count
total-held-requires-clause-count g c = ap length c.as_slice.ensures.value ∙ c.in_ok-folds.ensures.count

pub total-held-requires-clause-folds : goal.total-held-requires-clause-folds
total-held-requires-clause-folds g c = rw c.as_slice.ensures.value c.in_ok-folds.ensures.each

pub finish-requires : goal.finish-requires
finish-requires g c =
    let long = c.len.ensures ∙ ap (λ x. length x.items) c.cells.ensures.value ∙ c.cells.ensures.grid.full in
    subst (λ n. g.A.Lifted.fits c.args.op.now c.total-held.result n) (sym long) c.total-held.ensures.fits

pub returns : goal.returns
returns g c = ap (option_map (g.A.Lifted.finished c.args.op.now)) c.total-held.ensures.value ∙ ap Some (sym c.finish.ensures)
