use Rattle.std.proofs.Common.{ap, ◌∙◌, sym}
use Rattle.std.proofs.lemmas.Bool.Decides.{Decides-eqb, Decides-like}
use Rattle.std.proofs.lemmas.Slice.Eq.{slice_eq-Decides}
use Rattle.bin_tree.specs.Roses.{counts_of}
use Rattle.bin_tree.proofs.rose.Rose.same_shape.Goals as goal

pub returns : goal.returns
returns c =
    let mine = c.as_slice.ensures.value ∙ c.self.invariant.counts ∙ ap (λ x. counts_of x.rose) c.self.view_is in
    let other = c.as_slice-2.ensures.value ∙ c.other.invariant.counts ∙ ap (λ x. counts_of x.rose) c.other.view_is in
    Decides-like c.eq.result (λ e. sym mine ∙ e ∙ other) (λ e. mine ∙ e ∙ sym other) (slice_eq-Decides Decides-eqb _ _ _ c.eq.ensures)
