use Rattle.std.proofs.Common.{◌≡◌, ◌+◌, ◌≤◌, arith, subst}
use Rattle.bridge_contract.specs.Downs.{LeadsDown}
use Rattle.bridge_contract.proofs.WayLemmas.{hole_below, hole_near, no_hole, part_rest}
use Rattle.bridge_contract.proofs.ways.contract_down.Goals as goal

pub both_ways-requires-clause-above : goal.both_ways-requires-clause-above
both_ways-requires-clause-above g c = (hole_below c.args.tree.now.tree c.args.bridge.now c.in-Some.hole c.requires.bridge c.in-Some.is).above

pub both_ways-requires-clause-within : goal.both_ways-requires-clause-within
both_ways-requires-clause-within g c = (hole_below c.args.tree.now.tree c.args.bridge.now c.in-Some.hole c.requires.bridge c.in-Some.is).within

pub both_ways-requires-clause-inner : goal.both_ways-requires-clause-inner
both_ways-requires-clause-inner g c = (hole_below c.args.tree.now.tree c.args.bridge.now c.in-Some.hole c.requires.bridge c.in-Some.is).inner

pub returns-in-None-clause-leads : goal.returns-in-None-clause-leads
returns-in-None-clause-leads g c = no_hole c.args.tree.now.tree c.args.bridge.now c.in-None.is

pub returns-in-Some-clause-leads : goal.returns-in-Some-clause-leads
returns-in-Some-clause-leads g c =
    let op = c.args.op.now in
    subst (λ p. LeadsDown (g.D.DownOp.downward op) (g.D.DownOp.fits op) (g.D.DownOp.fits_way op) p c.both_ways.result) (part_rest c.args.tree.now.tree c.args.bridge.now c.in-Some.hole c.in-Some.is) c.both_ways.ensures.leads

pub returns-in-Some-clause-few_steps : goal.returns-in-Some-clause-few_steps
returns-in-Some-clause-few_steps g c = let near = hole_near c.args.tree.now.tree c.args.bridge.now c.in-Some.hole c.requires.bridge c.in-Some.is in let few = c.both_ways.ensures.few_steps in omega arith
