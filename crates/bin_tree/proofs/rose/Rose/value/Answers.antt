use Rattle.std.proofs.Common.{[], ap, arith, ◌∙◌}
use Rattle.bin_tree.proofs.RoseLemmas.{length-kept, get_or-kept}
use Rattle.bin_tree.proofs.rose.Rose.value.Goals as goal

pub at-requires : goal.at-requires
at-requires c =
    let n = length-kept (λ s. s.value) c.self.inside.values.items _ c.args.self.now.rose c.self.invariant.values (ap (λ x. x.rose) c.self.view_is) in
    omega (arith, c.requires)

pub returns-clause-value : goal.returns-clause-value
returns-clause-value c =
    c.at.ensures.value ∙ get_or-kept (λ s. s.value) c.self.inside.values.items _ c.args.self.now.rose c.args.i [] c.self.invariant.values (ap (λ x. x.rose) c.self.view_is) c.requires
