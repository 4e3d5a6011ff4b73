use Rattle.op_laws.proofs.MatrixLemmas.{flat_map-first_chunks}
use Rattle.op_laws.proofs.matrix.Matrix.of_cells.Goals as goal

pub returns-clause-by_rows : goal.returns-clause-by_rows
returns-clause-by_rows c = flat_map-first_chunks c.args.cols c.args.rows c.args.cells.items c.requires.full
