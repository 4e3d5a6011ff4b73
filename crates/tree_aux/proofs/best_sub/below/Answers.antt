use Rattle.std.proofs.Common.{ℤ, FitsSigned, Some, rules, ap, ◌∙◌}
use Rattle.std.specs.Int.{w128, int_max}
use Rattle.std.proofs.lemmas.Int.{to_z-of_z}
use Rattle.tree_aux.specs.LongPaths.{or_greater}
use Rattle.tree_aux.specs.LongPathLaws.{open_same}
use Rattle.tree_aux.proofs.best_sub.below.Goals as goal

pub returns : goal.returns
returns g c =
    let h_whole : FitsSigned w128 c.args.h.whole = search rules in
    let h_through : FitsSigned w128 c.args.h.through = search rules in
    let g_whole : FitsSigned w128 c.args.g.whole = search rules in
    let g_through : FitsSigned w128 c.args.g.through = search rules in
    let r_whole : FitsSigned w128 c.args.r.whole = search rules in
    let r_best : FitsSigned w128 c.args.r.best = search rules in
    let path : FitsSigned w128 c.sum_of_three-through.result = record { sfits = c.sum_of_three-through.type_inv } in
    let whole : FitsSigned w128 c.sum_of_three.result = record { sfits = c.sum_of_three.type_inv } in
    let through : FitsSigned w128 c.max.result = record { sfits = c.max.type_inv } in
    let inner : FitsSigned w128 c.or_greater_of.result = record { sfits = c.or_greater_of.type_inv } in
    let best : FitsSigned w128 c.or_greater_of-2.result = record { sfits = c.or_greater_of-2.type_inv } in
    let path_is = simp to_z-of_z at c.sum_of_three-through.ensures in
    let whole_is = simp to_z-of_z at c.sum_of_three.ensures in
    let through_is = simp to_z-of_z at c.max.ensures.value in
    let inner_is = simp to_z-of_z at c.or_greater_of.ensures in
    let best_is = simp to_z-of_z at c.or_greater_of-2.ensures in
    simp to_z-of_z (open_same _ _ _ _ _ _ whole_is (through_is ∙ ap (λ (z : ℤ). int_max c.args.h.through z) path_is) (ap Some (best_is ∙ ap (λ (z : ℤ). or_greater z c.args.g.best) inner_is)))
