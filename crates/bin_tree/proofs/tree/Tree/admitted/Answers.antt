use Rattle.std.proofs.Common.{ap, ◌∙◌}
use Rattle.op_laws.specs.Admits.{Admits}
use Rattle.bin_tree.specs.Trees.{top, column}
use Rattle.bin_tree.proofs.ShapeLemmas.{Each-values}
use Rattle.bin_tree.proofs.tree.Tree.admitted.Goals as goal

pub returns : goal.returns
returns c =
    let t = c.args.self.now.tree in
    let all = rw (c.self.invariant.values ∙ ap (λ x. column top x.tree) c.self.view_is, ap (λ x. x.ty) c.self.view_is) at c.admitted.ensures in
    Each-values (Admits c.args.self.now.ty) t all
