use Rattle.std.proofs.Common.{◌≡◌, ◌+◌, ◌-◌, ◌<◌, ◌≤◌, ◌++◌, ◌∷◌, [], arith, refl, sym, ◌∙◌, ap, subst, length, map, length-append, reverse}
use Rattle.op_laws.specs.declared.TheConstants.{MAX_ELEMENTS}
use Rattle.op_laws.specs.Laws.{IsElementOf}
use Rattle.op_laws.specs.Elements.{Elements}
use Rattle.op_laws.specs.Trees.{size, sub_at}
use Rattle.m_bridges.specs.Places.{part_at}
use Rattle.bridge_contract.specs.Pending.{pending, Fronts}
use Rattle.bridge_contract.specs.OwnNodes.{left_below, right_below}
use Rattle.bridge_contract.proofs.Laws.{laws_of}
use Rattle.bridge_contract.proofs.Stacks.{pending_end}
use Rattle.bridge_contract.proofs.CutLemmas.{elements_of}
use Rattle.bridge_contract.proofs.StackLemmas.{pending_each}
use Rattle.bridge_contract.proofs.PassLemmas.{OwnNodes, own_nodes, front_at, takes_at}
use Rattle.bridge_contract.proofs.StandLemmas.{AreLight, hanging, IsHanging, light_in, weighed_in, can_stand, stands, stands_none, stands_all, stand_fits}
use Rattle.op_laws.specs.TreeFolds.{fold_tree}
use Rattle.bridge_contract.proofs.OwnLemmas.{sub_entry}
use Rattle.bridge_contract.proofs.filling_up.expand_up.Goals as goal

pub loop-k-init : goal.loop-k-init
loop-k-init g c =
    let op = c.args.op.now in let t = c.args.tree.now.tree in let b = c.args.bridge.now in
    let nodes = c.len-nodes.ensures.value in let few : size t ≤ MAX_ELEMENTS = omega (arith, c.len-nodes.type_inv) in
    let each = elements_of (g.K.TreeOp.takes op) c.args.tree.now.ty c.requires.takes t c.admitted.ensures in
    let own = own_nodes (IsElementOf (g.K.TreeOp.takes op)) t b c.requires.bridge few each in
    let own_few = own.few in let own_within = own.within in
    let at_end = ap (pending (part_at t b)) (sym own.own_is) ∙ pending_end (part_at t b) in
    let none = ap length c.new-out.ensures.items in
    record {
      standing = stands_none (g.K.TreeOp.upward op) (IsElementOf (g.K.TreeOp.takes op)) (g.K.TreeOp.fits op) (g.K.TreeOp.fits_hole op) (laws_of (g.met.K.TreeOp.upward_laws op)) (g.K.TreeOp.finished op) (left_below t b.hole) (right_below t b.hole) (pending (part_at t b) b.own) c.new-stack.result.items c.new-out.result.items at_end c.new-stack.ensures.items c.new-out.ensures.items;
      within = omega arith;
      len = omega arith;
      ty = c.new-out.ensures.ty ∙ c.result.ensures ∙ ap (g.K.TreeOp.gives op) (c.ty.ensures ∙ ap (λ (x : Elements). x.ty) c.values.ensures);
    }

pub stand-value-requires-clause-takes : goal.stand-value-requires-clause-takes
stand-value-requires-clause-takes g c =
    let op = c.args.op.now in let t = c.args.tree.now.tree in let b = c.args.bridge.now in
    let nodes = c.len-nodes.ensures.value in let few : size t ≤ MAX_ELEMENTS = omega (arith, c.len-nodes.type_inv) in
    let each = elements_of (g.K.TreeOp.takes op) c.args.tree.now.ty c.requires.takes t c.admitted.ensures in
    let own = own_nodes (IsElementOf (g.K.TreeOp.takes op)) t b c.requires.bridge few each in
    let own_few = own.few in let own_within = own.within in
    let j = c.loop-k.k - 1 in let next : j + 1 ≡ c.loop-k.k = omega arith in
    let front = subst (λ i. Fronts c.own_head-head.result (pending (part_at t b) j) (pending (part_at t b) i)) next (front_at (IsElementOf (g.K.TreeOp.takes op)) t b j c.own_head-head.result own (omega arith) c.own_head-head.ensures) in
    let taken = takes_at (IsElementOf (g.K.TreeOp.takes op)) t b j c.own_head-head.result own (omega arith) c.own_head-head.ensures in
    let (n, hang) = hanging (IsElementOf (g.K.TreeOp.takes op)) t b c.requires.bridge few each in
    let known = weighed_in (g.K.TreeOp.upward op) (IsElementOf (g.K.TreeOp.takes op)) t b n j c.weighed-below.result hang c.weighed-below.ensures in
    taken

pub stand-value-requires-clause-can : goal.stand-value-requires-clause-can
stand-value-requires-clause-can g c =
    let op = c.args.op.now in let t = c.args.tree.now.tree in let b = c.args.bridge.now in
    let nodes = c.len-nodes.ensures.value in let few : size t ≤ MAX_ELEMENTS = omega (arith, c.len-nodes.type_inv) in
    let each = elements_of (g.K.TreeOp.takes op) c.args.tree.now.ty c.requires.takes t c.admitted.ensures in
    let own = own_nodes (IsElementOf (g.K.TreeOp.takes op)) t b c.requires.bridge few each in
    let own_few = own.few in let own_within = own.within in
    let j = c.loop-k.k - 1 in let next : j + 1 ≡ c.loop-k.k = omega arith in
    let front = subst (λ i. Fronts c.own_head-head.result (pending (part_at t b) j) (pending (part_at t b) i)) next (front_at (IsElementOf (g.K.TreeOp.takes op)) t b j c.own_head-head.result own (omega arith) c.own_head-head.ensures) in
    let taken = takes_at (IsElementOf (g.K.TreeOp.takes op)) t b j c.own_head-head.result own (omega arith) c.own_head-head.ensures in
    let (n, hang) = hanging (IsElementOf (g.K.TreeOp.takes op)) t b c.requires.bridge few each in
    let known = weighed_in (g.K.TreeOp.upward op) (IsElementOf (g.K.TreeOp.takes op)) t b n j c.weighed-below.result hang c.weighed-below.ensures in
    let weights = light_in j (IsElementOf (g.K.TreeOp.takes op)) t b n c.requires.bridge (omega arith) each hang (left_below t b.hole) (right_below t b.hole) refl refl in
    let light : AreLight (g.K.TreeOp.upward op) (IsElementOf (g.K.TreeOp.takes op)) (g.K.TreeOp.fits op) (g.K.TreeOp.fits_hole op) (laws_of (g.met.K.TreeOp.upward_laws op)) (g.K.TreeOp.finished op) (left_below t b.hole) (right_below t b.hole) (pending (part_at t b) j) n = record { size_is = weights.0; few = weights.1; left = hang.left; right = hang.right; each = pending_each (IsElementOf (g.K.TreeOp.takes op)) (part_at t b) j own.each } in
    can_stand (g.K.TreeOp.upward op) (IsElementOf (g.K.TreeOp.takes op)) (g.K.TreeOp.fits op) (g.K.TreeOp.fits_hole op) (laws_of (g.met.K.TreeOp.upward_laws op)) (g.K.TreeOp.finished op) (left_below t b.hole) (right_below t b.hole) c.own_head-head.result (pending (part_at t b) j) (pending (part_at t b) c.loop-k.k) c.weighed-below.result c.loop-k.stack.items c.loop-k.out.items n front taken light known c.loop-k.invariant.standing

pub finish-requires : goal.finish-requires
finish-requires g c =
    let op = c.args.op.now in let t = c.args.tree.now.tree in let b = c.args.bridge.now in
    let nodes = c.len-nodes.ensures.value in let few : size t ≤ MAX_ELEMENTS = omega (arith, c.len-nodes.type_inv) in
    let each = elements_of (g.K.TreeOp.takes op) c.args.tree.now.ty c.requires.takes t c.admitted.ensures in
    let own = own_nodes (IsElementOf (g.K.TreeOp.takes op)) t b c.requires.bridge few each in
    let own_few = own.few in let own_within = own.within in
    let j = c.loop-k.k - 1 in let next : j + 1 ≡ c.loop-k.k = omega arith in
    let front = subst (λ i. Fronts c.own_head-head.result (pending (part_at t b) j) (pending (part_at t b) i)) next (front_at (IsElementOf (g.K.TreeOp.takes op)) t b j c.own_head-head.result own (omega arith) c.own_head-head.ensures) in
    let (n, hang) = hanging (IsElementOf (g.K.TreeOp.takes op)) t b c.requires.bridge few each in
    let known = weighed_in (g.K.TreeOp.upward op) (IsElementOf (g.K.TreeOp.takes op)) t b n j c.weighed-below.result hang c.weighed-below.ensures in
    let weights = light_in j (IsElementOf (g.K.TreeOp.takes op)) t b n c.requires.bridge (omega arith) each hang (left_below t b.hole) (right_below t b.hole) refl refl in
    let light : AreLight (g.K.TreeOp.upward op) (IsElementOf (g.K.TreeOp.takes op)) (g.K.TreeOp.fits op) (g.K.TreeOp.fits_hole op) (laws_of (g.met.K.TreeOp.upward_laws op)) (g.K.TreeOp.finished op) (left_below t b.hole) (right_below t b.hole) (pending (part_at t b) j) n = record { size_is = weights.0; few = weights.1; left = hang.left; right = hang.right; each = pending_each (IsElementOf (g.K.TreeOp.takes op)) (part_at t b) j own.each } in
    let fit = stand_fits (g.K.TreeOp.upward op) (IsElementOf (g.K.TreeOp.takes op)) (g.K.TreeOp.fits op) (g.K.TreeOp.fits_hole op) (laws_of (g.met.K.TreeOp.upward_laws op)) (g.K.TreeOp.finished op) (left_below t b.hole) (right_below t b.hole) c.own_head-head.result (pending (part_at t b) j) (pending (part_at t b) c.loop-k.k) c.weighed-below.result c.loop-k.stack.items c.stand-value.new.stack.items c.loop-k.out.items c.stand-value.result n front light known
    c.stand-value.ensures c.loop-k.invariant.standing in
    fit.0

pub push-requires-in-loop-k-clause-admitted : goal.push-requires-in-loop-k-clause-admitted
push-requires-in-loop-k-clause-admitted g c =
    let op = c.args.op.now in let t = c.args.tree.now.tree in let b = c.args.bridge.now in
    let nodes = c.len-nodes.ensures.value in let few : size t ≤ MAX_ELEMENTS = omega (arith, c.len-nodes.type_inv) in
    let each = elements_of (g.K.TreeOp.takes op) c.args.tree.now.ty c.requires.takes t c.admitted.ensures in
    let own = own_nodes (IsElementOf (g.K.TreeOp.takes op)) t b c.requires.bridge few each in
    let own_few = own.few in let own_within = own.within in
    let j = c.loop-k.k - 1 in let next : j + 1 ≡ c.loop-k.k = omega arith in
    let front = subst (λ i. Fronts c.own_head-head.result (pending (part_at t b) j) (pending (part_at t b) i)) next (front_at (IsElementOf (g.K.TreeOp.takes op)) t b j c.own_head-head.result own (omega arith) c.own_head-head.ensures) in
    let (n, hang) = hanging (IsElementOf (g.K.TreeOp.takes op)) t b c.requires.bridge few each in
    let known = weighed_in (g.K.TreeOp.upward op) (IsElementOf (g.K.TreeOp.takes op)) t b n j c.weighed-below.result hang c.weighed-below.ensures in
    let weights = light_in j (IsElementOf (g.K.TreeOp.takes op)) t b n c.requires.bridge (omega arith) each hang (left_below t b.hole) (right_below t b.hole) refl refl in
    let light : AreLight (g.K.TreeOp.upward op) (IsElementOf (g.K.TreeOp.takes op)) (g.K.TreeOp.fits op) (g.K.TreeOp.fits_hole op) (laws_of (g.met.K.TreeOp.upward_laws op)) (g.K.TreeOp.finished op) (left_below t b.hole) (right_below t b.hole) (pending (part_at t b) j) n = record { size_is = weights.0; few = weights.1; left = hang.left; right = hang.right; each = pending_each (IsElementOf (g.K.TreeOp.takes op)) (part_at t b) j own.each } in
    let fit = stand_fits (g.K.TreeOp.upward op) (IsElementOf (g.K.TreeOp.takes op)) (g.K.TreeOp.fits op) (g.K.TreeOp.fits_hole op) (laws_of (g.met.K.TreeOp.upward_laws op)) (g.K.TreeOp.finished op) (left_below t b.hole) (right_below t b.hole) c.own_head-head.result (pending (part_at t b) j) (pending (part_at t b) c.loop-k.k) c.weighed-below.result c.loop-k.stack.items c.stand-value.new.stack.items c.loop-k.out.items c.stand-value.result n front light known
    c.stand-value.ensures c.loop-k.invariant.standing in
    rw (c.loop-k.invariant.ty, c.finish.ensures) ((g.met.K.TreeOp.upward_laws op).finished_admitted c.args.tree.now.ty c.stand-value.result.0 c.stand-value.result.1 c.requires.takes fit.1 fit.0)

pub push-requires-in-loop-k-clause-room : goal.push-requires-in-loop-k-clause-room
push-requires-in-loop-k-clause-room g c =
    let op = c.args.op.now in let t = c.args.tree.now.tree in let b = c.args.bridge.now in
    let nodes = c.len-nodes.ensures.value in let few : size t ≤ MAX_ELEMENTS = omega (arith, c.len-nodes.type_inv) in
    let each = elements_of (g.K.TreeOp.takes op) c.args.tree.now.ty c.requires.takes t c.admitted.ensures in
    let own = own_nodes (IsElementOf (g.K.TreeOp.takes op)) t b c.requires.bridge few each in
    let own_few = own.few in let own_within = own.within in
    let len = c.loop-k.invariant.len in omega arith

pub loop-k-preserved : goal.loop-k-preserved
loop-k-preserved g c =
    let op = c.args.op.now in let t = c.args.tree.now.tree in let b = c.args.bridge.now in
    let nodes = c.len-nodes.ensures.value in let few : size t ≤ MAX_ELEMENTS = omega (arith, c.len-nodes.type_inv) in
    let each = elements_of (g.K.TreeOp.takes op) c.args.tree.now.ty c.requires.takes t c.admitted.ensures in
    let own = own_nodes (IsElementOf (g.K.TreeOp.takes op)) t b c.requires.bridge few each in
    let own_few = own.few in let own_within = own.within in
    let j = c.loop-k.k - 1 in let next : j + 1 ≡ c.loop-k.k = omega arith in
    let front = subst (λ i. Fronts c.own_head-head.result (pending (part_at t b) j) (pending (part_at t b) i)) next (front_at (IsElementOf (g.K.TreeOp.takes op)) t b j c.own_head-head.result own (omega arith) c.own_head-head.ensures) in
    let (n, hang) = hanging (IsElementOf (g.K.TreeOp.takes op)) t b c.requires.bridge few each in
    let known = weighed_in (g.K.TreeOp.upward op) (IsElementOf (g.K.TreeOp.takes op)) t b n j c.weighed-below.result hang c.weighed-below.ensures in
    let out_is = c.in_ok-push-2.ensures.ok ∙ ap (λ e. c.loop-k.out.items ++ e ∷ []) c.finish.ensures in
    let more = stands (g.K.TreeOp.upward op) (IsElementOf (g.K.TreeOp.takes op)) (g.K.TreeOp.fits op) (g.K.TreeOp.fits_hole op) (laws_of (g.met.K.TreeOp.upward_laws op)) (g.K.TreeOp.finished op) (left_below t b.hole) (right_below t b.hole) c.own_head-head.result (pending (part_at t b) j) (pending (part_at t b) c.loop-k.k) c.weighed-below.result c.loop-k.stack.items c.stand-value.new.stack.items c.loop-k.out.items _ c.stand-value.result front known
    c.stand-value.ensures out_is c.loop-k.invariant.standing in
    let m = length-append c.loop-k.out.items (g.K.TreeOp.finished op c.stand-value.result.0 ∷ []) in let l = ap length out_is in let len = c.loop-k.invariant.len in let within = c.loop-k.invariant.within in
    record {
      standing = rw c.in_ok-push.ensures.items more;
      within = omega arith;
      len = omega arith;
      ty = c.in_ok-push-2.ensures.ty ∙ c.loop-k.invariant.ty;
    }

pub returns-clause-ty : goal.returns-clause-ty
returns-clause-ty g c = c.reverse.ensures.ty ∙ c.loop-k.invariant.ty

pub returns-clause-items : goal.returns-clause-items
returns-clause-items g c =
    let op = c.args.op.now in let t = c.args.tree.now.tree in let b = c.args.bridge.now in
    let nodes = c.len-nodes.ensures.value in let few : size t ≤ MAX_ELEMENTS = omega (arith, c.len-nodes.type_inv) in
    let each = elements_of (g.K.TreeOp.takes op) c.args.tree.now.ty c.requires.takes t c.admitted.ensures in
    let own = own_nodes (IsElementOf (g.K.TreeOp.takes op)) t b c.requires.bridge few each in
    let own_few = own.few in let own_within = own.within in
    stands_all (g.K.TreeOp.upward op) (IsElementOf (g.K.TreeOp.takes op)) (g.K.TreeOp.fits op) (g.K.TreeOp.fits_hole op) (laws_of (g.met.K.TreeOp.upward_laws op)) (g.K.TreeOp.finished op) (left_below t b.hole) (right_below t b.hole) (part_at t b) c.loop-k.k c.loop-k.stack.items c.loop-k.out.items c.reverse.new.self.items (omega arith) c.loop-k.invariant.standing c.reverse.ensures.items

pub returns-clause-each : goal.returns-clause-each
returns-clause-each g c =
    let op = c.args.op.now in
    λ j within. sub_entry (λ s. g.K.TreeOp.finished op (fold_tree (g.K.TreeOp.upward op) s)) c.args.tree.now.tree c.args.bridge.now c.reverse.new.self.items j c.requires.bridge (returns-clause-items g c) within
