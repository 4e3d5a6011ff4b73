use Rattle.std.proofs.Common.{ℤ, FitsSigned, Some, rules, ap, ◌∙◌}
use Rattle.std.specs.Int.{w128}
use Rattle.std.proofs.lemmas.Int.{to_z-of_z}
use Rattle.tree_aux.specs.LongPaths.{longer}
use Rattle.tree_aux.proofs.r_heavy.RHeavyTreeOp.psi_n.Goals as goal

pub returns : goal.returns
returns g c =
    let g_children : FitsSigned w128 c.args.g.children = search rules in
    let g_siblings : FitsSigned w128 c.args.g.siblings = search rules in
    let g_own : FitsSigned w128 c.args.g.own = search rules in
    let beside : FitsSigned w128 c.longer_of-beside.result = record { sfits = c.longer_of-beside.type_inv } in
    let all : FitsSigned w128 c.longer_of.result = record { sfits = c.longer_of.type_inv } in
    let beside_is = simp to_z-of_z at c.longer_of-beside.ensures in
    let all_is = simp to_z-of_z at c.longer_of.ensures in
    simp to_z-of_z (ap Some (all_is ∙ ap (λ (z : ℤ). longer c.args.g.children c.args.l z) beside_is))
