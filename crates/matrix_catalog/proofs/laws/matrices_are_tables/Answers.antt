use Rattle.matrix_catalog.proofs.GridTables.{grid_is_table}
use Rattle.matrix_catalog.proofs.laws.matrices_are_tables.Goals as goal

pub returns : goal.returns
returns c = grid_is_table c.args.matrix.now c.cells.ensures.grid (rw c.cells.ensures.value at c.admitted.ensures)
