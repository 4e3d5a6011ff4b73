use Rattle.std.proofs.Common.{ap, refl, sym, ◌∙◌}
use Rattle.bin_tree.specs.Roses.{size, counts_of}
use Rattle.bin_tree.specs.Columns.{rose_from}
use Rattle.bin_tree.proofs.ShapeLemmas.{rose_reshaped}
use Rattle.bin_tree.proofs.rose.Rose.reshape.Goals as goal

pub invariant_of-result : goal.invariant_of-result
invariant_of-result c =
    rose_reshaped (rose_from c.self.inside.counts.items c.self.inside.values.items) c.in_ok-counts.counts.items c.args.values.items
    (c.in_ok-counts.ensures.items ∙ c.deref.ensures.value ∙ c.self.invariant.counts)
    c.self.invariant.few
    (c.requires ∙ sym (ap (λ x. size x.rose) c.self.view_is))

pub returns : goal.returns
returns c =
    let counts = c.in_ok-counts.ensures.items ∙ c.deref.ensures.value ∙ c.self.invariant.counts in
    let columns = rose_reshaped (rose_from c.self.inside.counts.items c.self.inside.values.items) c.in_ok-counts.counts.items c.args.values.items counts
    c.self.invariant.few
    (c.requires ∙ sym (ap (λ x. size x.rose) c.self.view_is)) in
    record { ty = refl; counts = sym columns.counts ∙ counts ∙ ap (λ x. counts_of x.rose) c.self.view_is; values = sym columns.values }
