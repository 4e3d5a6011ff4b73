use Rattle.std.proofs.Common.{◌≡◌, ◌+◌, ◌-◌, ◌*◌, ◌<◌, ◌≤◌, ◌++◌, ◌∷◌, [], arith, refl, sym, ◌∙◌, ap, subst, length, map, length-append}
use Rattle.op_laws.specs.declared.TheConstants.{MAX_ELEMENTS}
use Rattle.op_laws.specs.Laws.{IsElementOf}
use Rattle.op_laws.specs.Elements.{Elements}
use Rattle.op_laws.specs.Trees.{size, sub_at}
use Rattle.bin_tree.proofs.TreeLemmas.{within_at, size_pos}
use Rattle.m_bridges.specs.Places.{part_at}
use Rattle.m_bridges.specs.Parts.{own as own_of}
use Rattle.bridge_contract.specs.Pending.{pending, Fronts}
use Rattle.bridge_contract.specs.Stacked.{HeadTakes}
use Rattle.bridge_contract.specs.OwnNodes.{depth_at}
use Rattle.bridge_contract.proofs.Stacks.{pending_end}
use Rattle.bridge_contract.proofs.CutLemmas.{elements_of}
use Rattle.bridge_contract.proofs.DownLaws.{down_laws_of}
use Rattle.bridge_contract.proofs.PassLemmas.{depth_small, own_within, OwnNodes, own_nodes, front_at, takes_at, is_some, on_top, passes, starts, ends}
use Rattle.bridge_contract.proofs.OwnLemmas.{down_entry}
use Rattle.bridge_contract.proofs.filling_down.expand_down.Goals as goal

pub loop-k-init : goal.loop-k-init
loop-k-init g c =
    let op = c.args.op.now in let t = c.args.tree.now.tree in let b = c.args.bridge.now in
    let laws = g.met.D.DownOp.downward_laws op in
    let len_is = c.len.ensures.value in let size_is = c.size.ensures.value in let few = c.size.ensures.few in
    let own = own_nodes (IsElementOf (g.D.DownOp.takes op)) t b c.requires.bridge (omega arith) (elements_of (g.D.DownOp.takes op) c.args.tree.now.ty c.requires.takes t c.admitted.ensures) in
    let w = c.len.result - c.size.result + 1 in
    let depth = depth_small t b.root c.requires.bridge.within in
    let own_is = own.own_is in let own_few = own.few in let within = own.within in
    record {
      passing = starts (g.D.DownOp.downward op) (IsElementOf (g.D.DownOp.takes op)) (g.D.DownOp.fits op) (g.D.DownOp.fits_way op) (down_laws_of laws) (g.D.DownOp.finished op) (size t + 1) (part_at t b) c.args.c w c.push.new.self.items c.new-out.result.items
          (c.in_ok-push.ensures.items ∙ ap (λ x. x ++ (c.args.c, w) ∷ []) c.new-stack.ensures.items) c.new-out.ensures.items
          (laws.grows c.args.c (1 + 2 * depth_at t b.root) w (omega arith) c.requires.value) (omega arith);
      len = ap length c.new-out.ensures.items;
      ty = c.new-out.ensures.ty ∙ c.result.ensures ∙ ap (g.D.DownOp.gives op) (c.ty.ensures ∙ ap (λ (x : Elements). x.ty) c.values.ensures);
    }

pub overflow_add-weight : goal.overflow_add-weight
overflow_add-weight g c = let p = size_pos (sub_at c.args.tree.now.tree c.args.bridge.now.root) in let e = c.size.ensures.value in omega (arith, c.len.type_inv)

pub taken-top-requires : goal.taken-top-requires
taken-top-requires g c =
    let op = c.args.op.now in let t = c.args.tree.now.tree in let b = c.args.bridge.now in
    let few = c.size.ensures.few in
    let own = own_nodes (IsElementOf (g.D.DownOp.takes op)) t b c.requires.bridge (omega arith) (elements_of (g.D.DownOp.takes op) c.args.tree.now.ty c.requires.takes t c.admitted.ensures) in
    is_some (g.D.DownOp.downward op) (IsElementOf (g.D.DownOp.takes op)) (g.D.DownOp.fits op) (g.D.DownOp.fits_way op) (down_laws_of (g.met.D.DownOp.downward_laws op)) (g.D.DownOp.finished op) (size t + 1) c.own_head-head.result
    (pending (part_at t b) c.loop-k.k) (pending (part_at t b) (c.loop-k.k + 1)) _ c.loop-k.stack.items c.loop-k.out.items
    (front_at (IsElementOf (g.D.DownOp.takes op)) t b c.loop-k.k c.own_head-head.result own c.loop-k-test.true c.own_head-head.ensures) c.loop-k.invariant.passing

pub pass_on-requires-clause-takes : goal.pass_on-requires-clause-takes
pass_on-requires-clause-takes g c =
    let op = c.args.op.now in let t = c.args.tree.now.tree in let b = c.args.bridge.now in
    let few = c.size.ensures.few in
    let own = own_nodes (IsElementOf (g.D.DownOp.takes op)) t b c.requires.bridge (omega arith) (elements_of (g.D.DownOp.takes op) c.args.tree.now.ty c.requires.takes t c.admitted.ensures) in
    takes_at (IsElementOf (g.D.DownOp.takes op)) t b c.loop-k.k c.own_head-head.result own c.loop-k-test.true c.own_head-head.ensures

pub pass_on-requires-clause-can : goal.pass_on-requires-clause-can
pass_on-requires-clause-can g c =
    let op = c.args.op.now in let t = c.args.tree.now.tree in let b = c.args.bridge.now in
    let few = c.size.ensures.few in
    let own = own_nodes (IsElementOf (g.D.DownOp.takes op)) t b c.requires.bridge (omega arith) (elements_of (g.D.DownOp.takes op) c.args.tree.now.ty c.requires.takes t c.admitted.ensures) in
    let top = on_top (g.D.DownOp.downward op) (IsElementOf (g.D.DownOp.takes op)) (g.D.DownOp.fits op) (g.D.DownOp.fits_way op) (down_laws_of (g.met.D.DownOp.downward_laws op)) (g.D.DownOp.finished op) (size t + 1) c.own_head-head.result
    (pending (part_at t b) c.loop-k.k) (pending (part_at t b) (c.loop-k.k + 1)) _ c.loop-k.stack.items c.taken-top.new.stack.items c.taken-top.result c.loop-k.out.items
    (front_at (IsElementOf (g.D.DownOp.takes op)) t b c.loop-k.k c.own_head-head.result own c.loop-k-test.true c.own_head-head.ensures) (takes_at (IsElementOf (g.D.DownOp.takes op)) t b c.loop-k.k c.own_head-head.result own c.loop-k-test.true c.own_head-head.ensures) c.taken-top.ensures c.loop-k.invariant.passing in
    top.can (omega arith)

pub finish-requires : goal.finish-requires
finish-requires g c =
    let op = c.args.op.now in let t = c.args.tree.now.tree in let b = c.args.bridge.now in
    let few = c.size.ensures.few in
    let own = own_nodes (IsElementOf (g.D.DownOp.takes op)) t b c.requires.bridge (omega arith) (elements_of (g.D.DownOp.takes op) c.args.tree.now.ty c.requires.takes t c.admitted.ensures) in
    let top = on_top (g.D.DownOp.downward op) (IsElementOf (g.D.DownOp.takes op)) (g.D.DownOp.fits op) (g.D.DownOp.fits_way op) (down_laws_of (g.met.D.DownOp.downward_laws op)) (g.D.DownOp.finished op) (size t + 1) c.own_head-head.result
    (pending (part_at t b) c.loop-k.k) (pending (part_at t b) (c.loop-k.k + 1)) _ c.loop-k.stack.items c.taken-top.new.stack.items c.taken-top.result c.loop-k.out.items
    (front_at (IsElementOf (g.D.DownOp.takes op)) t b c.loop-k.k c.own_head-head.result own c.loop-k-test.true c.own_head-head.ensures) (takes_at (IsElementOf (g.D.DownOp.takes op)) t b c.loop-k.k c.own_head-head.result own c.loop-k-test.true c.own_head-head.ensures) c.taken-top.ensures c.loop-k.invariant.passing in
    top.fit

pub push-requires-in-loop-k-clause-admitted : goal.push-requires-in-loop-k-clause-admitted
push-requires-in-loop-k-clause-admitted g c =
    let op = c.args.op.now in let t = c.args.tree.now.tree in let b = c.args.bridge.now in
    let few = c.size.ensures.few in
    let own = own_nodes (IsElementOf (g.D.DownOp.takes op)) t b c.requires.bridge (omega arith) (elements_of (g.D.DownOp.takes op) c.args.tree.now.ty c.requires.takes t c.admitted.ensures) in
    let top = on_top (g.D.DownOp.downward op) (IsElementOf (g.D.DownOp.takes op)) (g.D.DownOp.fits op) (g.D.DownOp.fits_way op) (down_laws_of (g.met.D.DownOp.downward_laws op)) (g.D.DownOp.finished op) (size t + 1) c.own_head-head.result
    (pending (part_at t b) c.loop-k.k) (pending (part_at t b) (c.loop-k.k + 1)) _ c.loop-k.stack.items c.taken-top.new.stack.items c.taken-top.result c.loop-k.out.items
    (front_at (IsElementOf (g.D.DownOp.takes op)) t b c.loop-k.k c.own_head-head.result own c.loop-k-test.true c.own_head-head.ensures) (takes_at (IsElementOf (g.D.DownOp.takes op)) t b c.loop-k.k c.own_head-head.result own c.loop-k-test.true c.own_head-head.ensures) c.taken-top.ensures c.loop-k.invariant.passing in
    let light = top.few in
    rw (c.loop-k.invariant.ty, c.finish.ensures) ((g.met.D.DownOp.downward_laws op).finished_admitted c.args.tree.now.ty c.taken-top.result.0 c.taken-top.result.1 c.requires.takes (omega arith) top.fit)

pub push-requires-in-loop-k-clause-room : goal.push-requires-in-loop-k-clause-room
push-requires-in-loop-k-clause-room g c =
    let op = c.args.op.now in let t = c.args.tree.now.tree in let b = c.args.bridge.now in
    let few = c.size.ensures.few in
    let own = own_nodes (IsElementOf (g.D.DownOp.takes op)) t b c.requires.bridge (omega arith) (elements_of (g.D.DownOp.takes op) c.args.tree.now.ty c.requires.takes t c.admitted.ensures) in
    let len = c.loop-k.invariant.len in let own_few = own.few in let within = own.within in omega arith

pub loop-k-preserved : goal.loop-k-preserved
loop-k-preserved g c =
    let op = c.args.op.now in let t = c.args.tree.now.tree in let b = c.args.bridge.now in
    let few = c.size.ensures.few in
    let own = own_nodes (IsElementOf (g.D.DownOp.takes op)) t b c.requires.bridge (omega arith) (elements_of (g.D.DownOp.takes op) c.args.tree.now.ty c.requires.takes t c.admitted.ensures) in
    let next = passes (g.D.DownOp.downward op) (IsElementOf (g.D.DownOp.takes op)) (g.D.DownOp.fits op) (g.D.DownOp.fits_way op) (down_laws_of (g.met.D.DownOp.downward_laws op)) (g.D.DownOp.finished op) (size t + 1) c.own_head-head.result
    (pending (part_at t b) c.loop-k.k) (pending (part_at t b) (c.loop-k.k + 1)) _ c.loop-k.stack.items c.taken-top.new.stack.items c.pass_on.new.stack.items c.taken-top.result c.loop-k.out.items (omega arith)
    (front_at (IsElementOf (g.D.DownOp.takes op)) t b c.loop-k.k c.own_head-head.result own c.loop-k-test.true c.own_head-head.ensures) (takes_at (IsElementOf (g.D.DownOp.takes op)) t b c.loop-k.k c.own_head-head.result own c.loop-k-test.true c.own_head-head.ensures) c.taken-top.ensures c.in_ok-pass_on.ensures c.loop-k.invariant.passing in
    let out_is = c.in_ok-push-2.ensures.ok ∙ ap (λ e. c.loop-k.out.items ++ e ∷ []) c.finish.ensures in
    let n = length-append c.loop-k.out.items (g.D.DownOp.finished op c.taken-top.result.0 ∷ []) in let m = ap length out_is in let len = c.loop-k.invariant.len in
    record {
      passing = rw out_is next;
      len = omega arith;
      ty = c.in_ok-push-2.ensures.ty ∙ c.loop-k.invariant.ty;
    }

pub returns-clause-items : goal.returns-clause-items
returns-clause-items g c =
    let op = c.args.op.now in let t = c.args.tree.now.tree in let b = c.args.bridge.now in
    let few = c.size.ensures.few in
    let own = own_nodes (IsElementOf (g.D.DownOp.takes op)) t b c.requires.bridge (omega arith) (elements_of (g.D.DownOp.takes op) c.args.tree.now.ty c.requires.takes t c.admitted.ensures) in
    let own_is = own.own_is in
    let at_end : c.loop-k.k ≡ own_of (part_at t b) = omega arith in
    ends (g.D.DownOp.downward op) (IsElementOf (g.D.DownOp.takes op)) (g.D.DownOp.fits op) (g.D.DownOp.fits_way op) (down_laws_of (g.met.D.DownOp.downward_laws op)) (g.D.DownOp.finished op) (size t + 1) (pending (part_at t b) c.loop-k.k) _ c.loop-k.stack.items c.loop-k.out.items (ap (pending (part_at t b)) at_end ∙ pending_end (part_at t b)) c.loop-k.invariant.passing

pub returns-clause-each : goal.returns-clause-each
returns-clause-each g c =
    let op = c.args.op.now in
    λ top start j within. down_entry (g.D.DownOp.downward op) (g.D.DownOp.finished op) c.args.tree.now.tree c.args.bridge.now top c.args.c c.loop-k.out.items j c.requires.bridge (returns-clause-items g c) start within
