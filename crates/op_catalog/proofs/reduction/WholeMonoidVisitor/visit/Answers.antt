use Rattle.std.proofs.Common.{◌≡◌, Some, ◌∙◌, ap, sym}
use Rattle.op_catalog.proofs.DispatchLemmas.{reduction-fold_or}
use Rattle.op_catalog.proofs.reduction.WholeMonoidVisitor.visit.Goals as goal

pub returns : goal.returns
returns g c =
    let op = c.args.op.now in
    rw c.folded.ensures (reduction-fold_or c.args._name c.args._ty c.requires.operator c.args.self.list.now.items (rw c.requires.ready at c.admitted.ensures))
