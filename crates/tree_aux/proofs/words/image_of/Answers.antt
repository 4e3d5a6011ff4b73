-- To wrap after each step is to wrap once.
use Rattle.std.proofs.Common.{ℤ, ◌*ℤ◌, ◌+ℤ◌, FitsSigned, rules, ap, ◌∙◌}
use Rattle.std.specs.Int.{w64, int_wrap}
use Rattle.std.proofs.lemmas.Int.{to_z-of_z, int_wrap-add_left}
use Rattle.tree_aux.proofs.words.image_of.Goals as goal

pub returns : goal.returns
returns c =
    let scale : FitsSigned w64 c.args.line.scale = search rules in
    let offset : FitsSigned w64 c.args.line.offset = search rules in
    let y = c.ranges.y in
    let product : FitsSigned w64 c.product.result = record { sfits = c.product.type_inv } in
    let sum : FitsSigned w64 c.sum.result = record { sfits = c.sum.type_inv } in
    let product_is = simp to_z-of_z at c.product.ensures in
    let sum_is = simp to_z-of_z at c.sum.ensures in
    simp to_z-of_z (sum_is ∙ ap (λ (z : ℤ). int_wrap w64 (z +ℤ c.args.line.offset)) product_is ∙ int_wrap-add_left w64 (c.args.line.scale *ℤ c.args.y) c.args.line.offset)
