use Rattle.std.proofs.Common.{ℤ, FitsSigned, rules, ap, ◌∙◌}
use Rattle.std.specs.Int.{w128, int_max}
use Rattle.std.proofs.lemmas.Int.{to_z-of_z}
use Rattle.tree_aux.specs.LongPaths.{longer}
use Rattle.tree_aux.specs.LongPathLaws.{paths_same}
use Rattle.tree_aux.proofs.r_heavy.RHeavyTreeOp.psi_l.Goals as goal

pub returns : goal.returns
returns g c =
    let g_children : FitsSigned w128 c.args.g.children = search rules in
    let g_siblings : FitsSigned w128 c.args.g.siblings = search rules in
    let g_own : FitsSigned w128 c.args.g.own = search rules in
    let l_children : FitsSigned w128 c.args.l.children = search rules in
    let l_siblings : FitsSigned w128 c.args.l.siblings = search rules in
    let l_own : FitsSigned w128 c.args.l.own = search rules in
    let path : FitsSigned w128 c.sum_of_two.result = record { sfits = c.sum_of_two.type_inv } in
    let greater : FitsSigned w128 c.max-own.result = record { sfits = c.max-own.type_inv } in
    let children : FitsSigned w128 c.sum_of_two-2.result = record { sfits = c.sum_of_two-2.type_inv } in
    let siblings : FitsSigned w128 c.sum_of_two-3.result = record { sfits = c.sum_of_two-3.type_inv } in
    let own : FitsSigned w128 c.longer_of.result = record { sfits = c.longer_of.type_inv } in
    let path_is = simp to_z-of_z at c.sum_of_two.ensures.value in
    let greater_is = simp to_z-of_z at c.max-own.ensures.value in
    let children_is = simp to_z-of_z at c.sum_of_two-2.ensures.value in
    let siblings_is = simp to_z-of_z at c.sum_of_two-3.ensures.value in
    let own_is = simp to_z-of_z at c.longer_of.ensures in
    simp to_z-of_z (paths_same _ _ _ _ _ _ children_is siblings_is
    (own_is ∙ ap (λ (z : ℤ). longer c.args.g.siblings c.args.r z) (greater_is ∙ ap (λ (z : ℤ). int_max c.args.g.own z) path_is)))
