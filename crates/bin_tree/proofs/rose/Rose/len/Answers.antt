use Rattle.std.proofs.Common.{ap, arith, ◌∙◌, sym}
use Rattle.bin_tree.specs.Roses.{degree, size}
use Rattle.bin_tree.proofs.RoseLemmas.{length-column, length-kept}
use Rattle.bin_tree.proofs.rose.Rose.len.Goals as goal

pub returns : goal.returns
returns c =
    let r = c.args.self.now.rose in
    let nodes = c.len.ensures ∙ length-kept (λ s. s.value) c.self.inside.values.items _ r c.self.invariant.values (ap (λ x. x.rose) c.self.view_is) in
    record {
      value = nodes;
      some = omega arith;
      few = let s = ap (λ x. size x.rose) c.self.view_is in let f = c.self.invariant.few in omega arith;
      counts = length-column degree r ∙ sym nodes;
      values = length-column (λ s. s.value) r ∙ sym nodes;
    }
