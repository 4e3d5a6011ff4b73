use Rattle.matrix_skel.proofs.Parts.{grid_is_rect}
use Rattle.matrix_skel.proofs.table.table.Goals as goal

pub returns : goal.returns
returns c = grid_is_rect c.args.a.now c.cells.ensures.grid (rw c.cells.ensures.value at c.admitted.ensures)
