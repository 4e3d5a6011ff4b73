use Rattle.matrix_skel.proofs.folds.Folds.block.Goals as goal

pub returns : goal.returns
returns g c =
    let t = c.place-place.result in
    let x = c.index-folds-place.result in
    let h = c.requires.folds t x c.place-place.ensures.within in
    rw (c.place-place.ensures.row, c.place-place.ensures.column, ← c.index-folds-place.is) at h
