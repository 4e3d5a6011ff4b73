use Rattle.std.proofs.Common.{ap, ◌∙◌, sym}
use Rattle.std.specs.Cmp.{booleans_Decides}
use Rattle.std.proofs.lemmas.Bool.Decides.{Decides-like}
use Rattle.std.proofs.lemmas.Slice.Eq.{slice_eq-Decides}
use Rattle.bin_tree.specs.Trees.{marks_of}
use Rattle.bin_tree.proofs.tree.Tree.same_shape.Goals as goal

pub returns : goal.returns
returns c =
    let mine = c.as_slice.ensures.value ∙ c.self.invariant.marks ∙ ap (λ x. marks_of x.tree) c.self.view_is in
    let other = c.as_slice-2.ensures.value ∙ c.other.invariant.marks ∙ ap (λ x. marks_of x.tree) c.other.view_is in
    Decides-like c.eq.result (λ e. sym mine ∙ e ∙ other) (λ e. mine ∙ e ∙ sym other) (slice_eq-Decides booleans_Decides _ _ _ c.eq.ensures)
