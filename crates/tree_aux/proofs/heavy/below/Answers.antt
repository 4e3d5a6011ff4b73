use Rattle.std.proofs.Common.{◌+◌, ℤ, ◌+ℤ◌, FitsSigned, Some, rules, ap, ◌∙◌, arith}
use Rattle.std.specs.Int.{w128}
use Rattle.std.proofs.lemmas.Int.{to_z-of_z}
use Rattle.tree_aux.specs.SumTreeLaws.{wider}
use Rattle.tree_aux.specs.LongPaths.{or_greater}
use Rattle.tree_aux.specs.LongPathLaws.{or_fits, may_grow, heavy_same}
use Rattle.tree_aux.proofs.heavy.below.Goals as goal

pub sum_of_two-path-requires-clause-first : goal.sum_of_two-path-requires-clause-first
sum_of_two-path-requires-clause-first g c =
    let r = c.ranges.r in
    let longest : FitsSigned w128 c.or_greater_of-longest.result = record { sfits = c.or_greater_of-longest.type_inv } in
    let longest_is = simp to_z-of_z at c.or_greater_of-longest.ensures in
    let n = c.args._nr + c.args._nh in
    simp to_z-of_z (rw longest_is (or_fits g.row.W c.args.r c.args.h.other n (wider g.row.W c.args.r c.args._nr n (omega arith) c.requires.other) (may_grow g.row.W c.args.h.other c.args._nh n (omega arith) c.requires.inner.other)))

pub returns : goal.returns
returns g c =
    let r = c.ranges.r in
    let inner : FitsSigned w128 c.args.h.own = search rules in
    let outer : FitsSigned w128 c.args.g.own = search rules in
    let longest : FitsSigned w128 c.or_greater_of-longest.result = record { sfits = c.or_greater_of-longest.type_inv } in
    let path : FitsSigned w128 c.sum_of_two-path.result = record { sfits = c.sum_of_two-path.type_inv } in
    let own : FitsSigned w128 c.sum_of_two.result = record { sfits = c.sum_of_two.type_inv } in
    let other : FitsSigned w128 c.or_greater_of.result = record { sfits = c.or_greater_of.type_inv } in
    let longest_is = simp to_z-of_z at c.or_greater_of-longest.ensures in
    let path_is = simp to_z-of_z at c.sum_of_two-path.ensures.value in
    let own_is = simp to_z-of_z at c.sum_of_two.ensures.value in
    let other_is = simp to_z-of_z at c.or_greater_of.ensures in
    simp to_z-of_z (heavy_same _ _ _ _ own_is (ap Some (other_is ∙ ap (λ (z : ℤ). or_greater z c.args.g.other) (path_is ∙ ap (λ (z : ℤ). z +ℤ c.args.g.own) longest_is))))
