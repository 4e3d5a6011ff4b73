use Rattle.std.proofs.Common.{ap, arith, ◌∙◌, sym}
use Rattle.bin_tree.specs.Roses.{degree}
use Rattle.bin_tree.proofs.RoseLemmas.{length-kept, get_or-column, get_or-kept}
use Rattle.bin_tree.proofs.rose.Rose.children.Goals as goal

pub index-requires : goal.index-requires
index-requires c =
    let n = length-kept degree c.self.inside.counts.items _ c.args.self.now.rose c.self.invariant.counts (ap (λ x. x.rose) c.self.view_is) in
    omega (arith, c.self.inside.counts.ok.0)

pub returns : goal.returns
returns c =
    let r = c.args.self.now.rose in
    let is = c.index.ensures ∙ get_or-kept degree c.self.inside.counts.items _ r c.args.i c.index.result.now c.self.invariant.counts (ap (λ x. x.rose) c.self.view_is) c.requires in
    record { value = is; count = is ∙ sym (get_or-column degree r c.args.i 0 c.requires) }
