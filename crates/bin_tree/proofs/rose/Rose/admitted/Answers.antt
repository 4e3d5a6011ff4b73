use Rattle.std.proofs.Common.{ap, ◌∙◌}
use Rattle.op_laws.specs.Admits.{Admits}
use Rattle.bin_tree.specs.Roses.{values_of}
use Rattle.bin_tree.proofs.ShapeLemmas.{Each-rose_values}
use Rattle.bin_tree.proofs.rose.Rose.admitted.Goals as goal

pub returns : goal.returns
returns c =
    let all = rw (c.self.invariant.values ∙ ap (λ x. values_of x.rose) c.self.view_is, ap (λ x. x.ty) c.self.view_is) at c.admitted.ensures in
    Each-rose_values (Admits c.args.self.now.ty) c.args.self.now.rose all
