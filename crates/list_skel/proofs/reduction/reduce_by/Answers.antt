use Rattle.std.proofs.Common.{◌≡◌, length, ap, ◌∙◌, unwrap_or}
use Rattle.list_skel.proofs.reduction.reduce_by.Goals as goal

pub total-requires-clause-count : goal.total-requires-clause-count
total-requires-clause-count g c = ap length c.as_slice.ensures.value ∙ c.in_ok-folds.ensures.count

pub total-requires-clause-folds : goal.total-requires-clause-folds
total-requires-clause-folds g c = rw c.as_slice.ensures.value c.in_ok-folds.ensures.each

pub finished-requires-clause-held : goal.finished-requires-clause-held
finished-requires-clause-held g c = rw c.of-blocks.ensures.len at c.total.ensures.fits

pub returns : goal.returns
returns g c =
    let op = c.args.op.now in
    c.finished.ensures ∙ ap (λ o. g.M.Lifted.finished op (unwrap_or o (g.M.Monoid.nothing op))) c.total.ensures.value
