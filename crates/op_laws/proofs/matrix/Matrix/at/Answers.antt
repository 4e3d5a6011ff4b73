use Rattle.std.proofs.Common.{◌+◌, ◌*◌, [], get_or, ap, ◌∙◌, sym, rules}
use Rattle.op_laws.proofs.MatrixLemmas.{cell_at-place, get_or-column_at}
use Rattle.op_laws.proofs.matrix.Matrix.at.Goals as goal

pub returns : goal.returns
returns c =
    let g = c.args.self.now in
    let at_place = c.at.ensures.value ∙ ap (λ x. get_or x.cells (c.args.i * x.cols + c.args.j) []) c.self.view_is in
    let cell = at_place ∙ sym (cell_at-place g c.args.i c.args.j c.requires.row c.requires.column) in
    record {
      value = cell;
      in_column = cell ∙ sym (get_or-column_at g c.args.i c.args.j c.requires.row);
      place = at_place;
      admitted = search rules;
    }
