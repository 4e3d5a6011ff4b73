use Rattle.std.proofs.Common.{◌≡◌, ◌+◌, ◌<◌, ◌≤◌, arith, refl, subst, sym}
use Rattle.op_laws.specs.Laws.{IsElementOf}
use Rattle.bridge_contract.proofs.WayLemmas.{HoleBelow, inside, steps_left, steps_right}
use Rattle.bridge_contract.proofs.ways.step_down.Goals as goal

pub size-left-requires : goal.size-left-requires
size-left-requires g c =
    inside c.args.tree.now.tree c.args.at c.args.hole (record { in_tree = c.requires.in_tree; above = omega arith; within = c.requires.within; inner = c.requires.inner }) c.requires.above

pub phi_l-requires : goal.phi_l-requires
phi_l-requires g c = (c.args.tree.now.ty, c.requires.takes, c.node-node.ensures.admitted)

pub phi_r-requires : goal.phi_r-requires
phi_r-requires g c = (c.args.tree.now.ty, c.requires.takes, c.node-node.ensures.admitted)

pub returns-then-hole-at-clause-leads : goal.returns-then-hole-at-clause-leads
returns-then-hole-at-clause-leads g c =
    let k = g.D.DownOp.downward c.args.op.now in let t = c.args.tree.now.tree in
    let below : HoleBelow c.args.tree.now.tree c.args.at c.args.hole = record { in_tree = c.requires.in_tree; above = omega arith; within = c.requires.within; inner = c.requires.inner } in
    rw c.phi_l.ensures (steps_left k t c.args.at c.args.hole c.node-node.result.value c.size-left.result (c.args.at + 1) below c.requires.above c.node-node.ensures.value c.size-left.ensures.value (omega arith) refl)

pub returns-then-hole-at-clause-fit : goal.returns-then-hole-at-clause-fit
returns-then-hole-at-clause-fit g c = rw c.phi_l.ensures ((g.met.D.DownOp.downward_laws c.args.op.now).left_fits c.args.tree.now.ty c.node-node.result.value c.requires.takes c.node-node.ensures.admitted)

pub returns-else-hole-at-clause-leads : goal.returns-else-hole-at-clause-leads
returns-else-hole-at-clause-leads g c =
    let k = g.D.DownOp.downward c.args.op.now in let t = c.args.tree.now.tree in
    let below : HoleBelow c.args.tree.now.tree c.args.at c.args.hole = record { in_tree = c.requires.in_tree; above = omega arith; within = c.requires.within; inner = c.requires.inner } in
    rw c.phi_r.ensures (steps_right k t c.args.at c.args.hole c.node-node.result.value c.size-left.result (c.args.at + 1 + c.size-left.result) below c.requires.above c.node-node.ensures.value c.size-left.ensures.value (omega arith) refl)

pub returns-else-hole-at-clause-fit : goal.returns-else-hole-at-clause-fit
returns-else-hole-at-clause-fit g c = rw c.phi_r.ensures ((g.met.D.DownOp.downward_laws c.args.op.now).right_fits c.args.tree.now.ty c.node-node.result.value c.requires.takes c.node-node.ensures.admitted)
