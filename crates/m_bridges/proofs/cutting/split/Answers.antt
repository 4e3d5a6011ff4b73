use Rattle.std.proofs.Common.{◌≤◌, ◌+◌, length, arith, ap, sym, subst}
use Rattle.std.proofs.lemmas.List.Elements.{All-weaker}
use Rattle.op_laws.specs.Trees.{size}
use Rattle.std.specs.List.{All}
use Rattle.m_bridges.specs.Bridges.{bridges, AreFew, IsFull, RootsAscend, with_node_above}
use Rattle.m_bridges.specs.Places.{IsOwnedOnce}
use Rattle.m_bridges.specs.Paths.{AreBridgesByPaths}
use Rattle.m_bridges.proofs.SplitLemmas.{as_few_as_nodes, are_few}
use Rattle.m_bridges.proofs.PlacedLemmas.{placed}
use Rattle.m_bridges.proofs.PathPlaces.{by_paths}
use Rattle.m_bridges.proofs.FullLemmas.{full}
use Rattle.m_bridges.proofs.AscentLemmas.{roots_ascend, owned_once, few_above}
use Rattle.m_bridges.proofs.cutting.split.Goals as goal

pub invariant_of-result : goal.invariant_of-result
invariant_of-result c =
    let t = c.args.tree.now.tree in
    let few = as_few_as_nodes c.args.m t 0 in
    let same = ap length c.in_ok-list.ensures in
    omega (arith, c.len-nodes.ensures.value, c.len-nodes.type_inv)

pub returns-clause-places : goal.returns-clause-places
returns-clause-places c = rw c.in_ok-list.ensures (placed c.args.m c.args.tree.now.tree c.requires).of

pub returns-clause-own : goal.returns-clause-own
returns-clause-own c = rw c.in_ok-list.ensures (placed c.args.m c.args.tree.now.tree c.requires).few

pub returns-clause-few : goal.returns-clause-few
returns-clause-few c =
    let t = c.args.tree.now.tree in
    subst (λ bs. AreFew (size t) c.args.m (length bs)) (sym c.in_ok-list.ensures) (are_few c.args.m t c.requires)

pub returns-clause-full : goal.returns-clause-full
returns-clause-full c = let t = c.args.tree.now.tree in subst (IsFull t) (sym c.in_ok-list.ensures) (full c.args.m c.requires t)

pub returns-clause-ascend : goal.returns-clause-ascend
returns-clause-ascend c = subst RootsAscend (sym c.in_ok-list.ensures) (roots_ascend c.args.m c.args.tree.now.tree)

pub returns-clause-above : goal.returns-clause-above
returns-clause-above c =
    let t = c.args.tree.now.tree in let m = c.args.m in
    subst (All (λ b. with_node_above b ≤ m + 1)) (sym c.in_ok-list.ensures)
    (All-weaker (λ b. b.own ≤ m) (λ b. with_node_above b ≤ m + 1) (few_above m) (bridges m 0 t) (placed m t c.requires).few)

pub returns-clause-paths : goal.returns-clause-paths
returns-clause-paths c =
    let t = c.args.tree.now.tree in
    subst (AreBridgesByPaths c.args.m t) (sym c.in_ok-list.ensures) (by_paths c.args.m c.requires t)

pub returns-clause-once : goal.returns-clause-once
returns-clause-once c = λ i within.
    let t = c.args.tree.now.tree in
    subst (λ bs. IsOwnedOnce t bs i) (sym c.in_ok-list.ensures) (owned_once t _ i (roots_ascend c.args.m t) ((placed c.args.m t c.requires).once i (omega arith) (omega arith)))
