-- To wrap after each step is to wrap once.
use Rattle.std.proofs.Common.{ℤ, ◌*ℤ◌, ◌+ℤ◌, FitsSigned, refl, ap, ◌∙◌}
use Rattle.std.specs.Int.{w64, int_wrap}
use Rattle.std.proofs.lemmas.Int.{to_z-of_z, int_wrap-add_left}
use Rattle.tree_aux.specs.WordTreeLaws.{same_three, wrap_wrap}
use Rattle.tree_aux.proofs.words.weighted_sum.Goals as goal

pub returns : goal.returns
returns c =
    let fa = c.ranges.a in let fx = c.ranges.x in let fb = c.ranges.b in let fy = c.ranges.y in let fc = c.ranges.c in
    let first : FitsSigned w64 c.product.result = record { sfits = c.product.type_inv } in
    let second : FitsSigned w64 c.product-2.result = record { sfits = c.product-2.type_inv } in
    let both : FitsSigned w64 c.sum.result = record { sfits = c.sum.type_inv } in
    let all : FitsSigned w64 c.sum-2.result = record { sfits = c.sum-2.type_inv } in
    let first_is = simp to_z-of_z at c.product.ensures in
    let second_is = simp to_z-of_z at c.product-2.ensures in
    let both_is = simp to_z-of_z at c.sum.ensures in
    let all_is = simp to_z-of_z at c.sum-2.ensures in
    let ax = c.args.a *ℤ c.args.x in let by = c.args.b *ℤ c.args.y in
    simp to_z-of_z (all_is
    ∙ ap (λ (z : ℤ). int_wrap w64 (z +ℤ c.args.c)) (both_is ∙ ap (λ (z : ℤ). int_wrap w64 (z +ℤ c.product-2.result)) first_is ∙ ap (λ (z : ℤ). int_wrap w64 (int_wrap w64 ax +ℤ z)) second_is)
    ∙ int_wrap-add_left w64 (int_wrap w64 ax +ℤ int_wrap w64 by) c.args.c
    ∙ same_three (int_wrap w64 ax) ax (int_wrap w64 by) by c.args.c c.args.c (wrap_wrap ax) (wrap_wrap by) refl)
