use Rattle.std.proofs.Common.{◌≡◌, ◌+◌, ◌-◌, ◌<◌, ◌≤◌, arith, refl, subst, sym, ap, ◌∙◌, Some, None}
use Rattle.op_laws.specs.declared.TheConstants.{MAX_ELEMENTS}
use Rattle.op_laws.specs.Laws.{IsElementOf}
use Rattle.op_laws.specs.Trees.{size, sub_at, top}
use Rattle.bin_tree.proofs.TreeLemmas.{within_at, size_pos}
use Rattle.bridge_contract.proofs.DownLaws.{down_laws_of}
use Rattle.bridge_contract.proofs.WayLemmas.{HoleBelow, inner_size, starts, goes_on, arrives}
use Rattle.bridge_contract.specs.Ways.{IsOnWay}
use Rattle.bridge_contract.proofs.ways.both_ways.Goals as goal

pub loop-at-init : goal.loop-at-init
loop-at-init g c = record {
  on_way = starts (g.D.DownOp.downward c.args.op.now) (g.D.DownOp.fits c.args.op.now) (g.D.DownOp.fits_way c.args.op.now) c.args.tree.now.tree c.args.root c.args.hole
      (record { in_tree = c.requires.in_tree; above = c.requires.above; within = c.requires.within; inner = c.requires.inner });
  steps = omega arith;
}

pub step_down-next-requires-clause-in_tree : goal.step_down-next-requires-clause-in_tree
step_down-next-requires-clause-in_tree g c = c.loop-at.invariant.on_way.in_tree

pub step_down-next-requires-clause-within : goal.step_down-next-requires-clause-within
step_down-next-requires-clause-within g c = c.loop-at.invariant.on_way.within

pub onward-requires-clause-few : goal.onward-requires-clause-few
onward-requires-clause-few g c =
    let less = c.step_down-next.ensures.leads.smaller in let few = c.loop-at.invariant.on_way.few in
    let inside = within_at c.args.tree.now.tree c.args.root c.requires.in_tree in let small = c.size-size.ensures.few in omega arith

pub onward-requires-clause-way : goal.onward-requires-clause-way
onward-requires-clause-way g c = c.loop-at.invariant.on_way.fit

pub onward-requires-clause-step : goal.onward-requires-clause-step
onward-requires-clause-step g c = c.step_down-next.ensures.fit

pub loop-at-preserved : goal.loop-at-preserved
loop-at-preserved g c =
    let op = c.args.op.now in
    let inside = within_at c.args.tree.now.tree c.args.root c.requires.in_tree in let small = c.size-size.ensures.few in
    let from = c.step_down-next.ensures.leads.from in let step = c.step_down-next.ensures.one_step in let before = c.loop-at.invariant.steps in
    record {
      on_way = rw c.onward.ensures (goes_on (g.D.DownOp.downward op) (IsElementOf (g.D.DownOp.takes op)) (g.D.DownOp.fits op) (g.D.DownOp.fits_way op) (down_laws_of (g.met.D.DownOp.downward_laws op)) c.args.tree.now.tree
          c.args.root c.args.hole c.loop-at.at c.loop-at.way c.step_down-next.result.0 c.step_down-next.result.1 (omega arith) c.step_down-next.ensures.fit c.step_down-next.ensures.leads c.loop-at.invariant.on_way);
      steps = omega arith;
    }

pub loop-at-smaller : goal.loop-at-smaller
loop-at-smaller g c = let from = c.step_down-next.ensures.leads.from in let above = c.step_down-next.ensures.leads.above in omega arith

pub node-requires : goal.node-requires
node-requires g c = c.loop-at.invariant.on_way.in_tree

pub phi_l-requires : goal.phi_l-requires
phi_l-requires g c = (c.args.tree.now.ty, c.requires.takes, c.node.ensures.admitted)

pub phi_r-requires : goal.phi_r-requires
phi_r-requires g c = (c.args.tree.now.ty, c.requires.takes, c.node.ensures.admitted)

pub onward-l-requires-clause-few : goal.onward-l-requires-clause-few
onward-l-requires-clause-few g c =
    let on = c.loop-at.invariant.on_way in
    let few = on.few in let above = on.above in
    let at_is : c.loop-at.at ≡ c.args.hole = omega arith in
    let big = inner_size (sub_at c.args.tree.now.tree c.args.hole) c.requires.inner in let same = ap (λ i. size (sub_at c.args.tree.now.tree i)) at_is in
    let inside = within_at c.args.tree.now.tree c.args.root c.requires.in_tree in let small = c.size-size.ensures.few in omega arith

pub onward-l-requires-clause-way : goal.onward-l-requires-clause-way
onward-l-requires-clause-way g c = c.loop-at.invariant.on_way.fit

pub onward-l-requires-clause-step : goal.onward-l-requires-clause-step
onward-l-requires-clause-step g c = rw c.phi_l.ensures ((g.met.D.DownOp.downward_laws c.args.op.now).left_fits c.args.tree.now.ty c.node.result.value c.requires.takes c.node.ensures.admitted)

pub onward-r-requires-clause-few : goal.onward-r-requires-clause-few
onward-r-requires-clause-few g c =
    let on = c.loop-at.invariant.on_way in
    let few = on.few in let above = on.above in
    let at_is : c.loop-at.at ≡ c.args.hole = omega arith in
    let big = inner_size (sub_at c.args.tree.now.tree c.args.hole) c.requires.inner in let same = ap (λ i. size (sub_at c.args.tree.now.tree i)) at_is in
    let inside = within_at c.args.tree.now.tree c.args.root c.requires.in_tree in let small = c.size-size.ensures.few in omega arith

pub onward-r-requires-clause-way : goal.onward-r-requires-clause-way
onward-r-requires-clause-way g c = c.loop-at.invariant.on_way.fit

pub onward-r-requires-clause-step : goal.onward-r-requires-clause-step
onward-r-requires-clause-step g c = rw c.phi_r.ensures ((g.met.D.DownOp.downward_laws c.args.op.now).right_fits c.args.tree.now.ty c.node.result.value c.requires.takes c.node.ensures.admitted)

pub returns-clause-leads : goal.returns-clause-leads
returns-clause-leads g c =
    let op = c.args.op.now in let t = c.args.tree.now.tree in
    let on = c.loop-at.invariant.on_way in let above = on.above in
    let at_is : c.loop-at.at ≡ c.args.hole = omega arith in
    let inside = within_at c.args.tree.now.tree c.args.root c.requires.in_tree in let small = c.size-size.ensures.few in
    rw (c.onward-l.ensures, c.onward-r.ensures, c.phi_l.ensures, c.phi_r.ensures)
    (arrives (g.D.DownOp.downward op) (IsElementOf (g.D.DownOp.takes op)) (g.D.DownOp.fits op) (g.D.DownOp.fits_way op) (down_laws_of (g.met.D.DownOp.downward_laws op)) t c.args.root c.args.hole c.loop-at.way c.node.result.value
    (omega arith) (c.args.tree.now.ty, c.requires.takes, c.node.ensures.admitted) (record { in_tree = c.requires.in_tree; above = c.requires.above; within = c.requires.within; inner = c.requires.inner })
    (c.node.ensures.value ∙ ap (λ i. top (sub_at t i)) at_is)
    (subst (λ i. IsOnWay (g.D.DownOp.downward op) (g.D.DownOp.fits op) (g.D.DownOp.fits_way op) t c.args.root c.args.hole i c.loop-at.way) at_is on))

pub returns-clause-few_steps : goal.returns-clause-few_steps
returns-clause-few_steps g c = let on = c.loop-at.invariant.on_way in let above = on.above in let before = c.loop-at.invariant.steps in let step = c.node.ensures.one_step in omega arith
