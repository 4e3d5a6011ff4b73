use Rattle.std.proofs.Common.{ℤ, FitsSigned, rules, ap, ◌∙◌}
use Rattle.std.specs.Int.{w128}
use Rattle.std.proofs.lemmas.Int.{to_z-of_z}
use Rattle.tree_aux.specs.LongPaths.{or_greater}
use Rattle.tree_aux.proofs.heavy.HeavyTreeOp.psi_n.Goals as goal

pub returns : goal.returns
returns g c =
    let l = c.ranges.l in let r = c.ranges.r in
    let own : FitsSigned w128 c.args.g.own = search rules in
    let sum : FitsSigned w128 c.greater_sum.result = record { sfits = c.greater_sum.type_inv } in
    let all : FitsSigned w128 c.or_greater_of.result = record { sfits = c.or_greater_of.type_inv } in
    let sum_is = simp to_z-of_z at c.greater_sum.ensures in
    let all_is = simp to_z-of_z at c.or_greater_of.ensures in
    simp to_z-of_z (all_is ∙ ap (λ (z : ℤ). or_greater z c.args.g.other) sum_is)
