use Rattle.op_laws.specs.Laws.{IsElementOf}
use Rattle.bridge_contract.proofs.Laws.{laws_of}
use Rattle.std.proofs.Common.{◌≡◌, ◌<◌, ◌≤◌, ◌+◌, ◌-◌, ◌^◌, arith, sym, ◌∙◌, ap, reverse, subst, refl}
use Rattle.op_laws.specs.declared.TheConstants.{MAX_ELEMENTS}
use Rattle.bridge_contract.specs.Pending.{pending}
use Rattle.m_bridges.specs.Places.{part_at}
use Rattle.bridge_contract.specs.Stacked.{SumsEach}
use Rattle.bridge_contract.proofs.CutLemmas.{elements_of}
use Rattle.bridge_contract.proofs.StackLemmas.{ready, put, fronts_of, fit_of, takes_of, ends_of, begins, some_left, last_is}
use Rattle.bridge_contract.proofs.AllBridgesLemmas.{whole_sum}
use Rattle.bridge_contract.proofs.contraction.contract.Goals as goal

pub loop-k-init : goal.loop-k-init
loop-k-init g c =
    let op = c.args.op.now in let t = c.args.tree.now.tree in let b = c.args.bridge.now in
    let few : b.own ≤ MAX_ELEMENTS = omega arith in
    record {
      sums = begins (g.K.TreeOp.upward op) (IsElementOf (g.K.TreeOp.takes op)) (g.K.TreeOp.fits op) (g.K.TreeOp.fits_hole op) (laws_of (g.met.K.TreeOp.upward_laws op)) _ _
          (ends_of (IsElementOf (g.K.TreeOp.takes op)) t b c.requires.bridge few (elements_of (g.K.TreeOp.takes c.args.op.now) c.args.tree.now.ty c.requires.takes c.args.tree.now.tree c.admitted.ensures) b.own refl) c.new-stack.ensures.items;
      within = omega arith;
      few = few;
      steps = omega arith;
    }

pub fronted-summary-requires-clause-takes : goal.fronted-summary-requires-clause-takes
fronted-summary-requires-clause-takes g c =
    takes_of (IsElementOf (g.K.TreeOp.takes c.args.op.now)) c.args.tree.now.tree c.args.bridge.now c.requires.bridge c.loop-k.invariant.few (elements_of (g.K.TreeOp.takes c.args.op.now) c.args.tree.now.ty c.requires.takes c.args.tree.now.tree c.admitted.ensures) c.loop-k.k c.own_node-head.result c.loop-k-test.true c.loop-k.invariant.within c.own_node-head.ensures.head

pub fronted-summary-requires-clause-ready : goal.fronted-summary-requires-clause-ready
fronted-summary-requires-clause-ready g c =
    let op = c.args.op.now in let t = c.args.tree.now.tree in let b = c.args.bridge.now in
    ready (g.K.TreeOp.upward op) (IsElementOf (g.K.TreeOp.takes op)) (g.K.TreeOp.fits op) (g.K.TreeOp.fits_hole op) (laws_of (g.met.K.TreeOp.upward_laws op)) c.own_node-head.result
    (pending (part_at t b) (c.loop-k.k - 1)) (pending (part_at t b) c.loop-k.k) c.loop-k.stack.items
    (fronts_of (IsElementOf (g.K.TreeOp.takes op)) t b c.requires.bridge c.loop-k.invariant.few (elements_of (g.K.TreeOp.takes c.args.op.now) c.args.tree.now.ty c.requires.takes c.args.tree.now.tree c.admitted.ensures) c.loop-k.k c.own_node-head.result c.loop-k-test.true c.loop-k.invariant.within c.own_node-head.ensures.head)
    (fit_of (IsElementOf (g.K.TreeOp.takes op)) t b c.requires.bridge c.loop-k.invariant.few (elements_of (g.K.TreeOp.takes c.args.op.now) c.args.tree.now.ty c.requires.takes c.args.tree.now.tree c.admitted.ensures) (c.loop-k.k - 1))
    c.loop-k.invariant.sums

pub loop-k-preserved : goal.loop-k-preserved
loop-k-preserved g c =
    let op = c.args.op.now in let t = c.args.tree.now.tree in let b = c.args.bridge.now in
    let next = put (g.K.TreeOp.upward op) (IsElementOf (g.K.TreeOp.takes op)) (g.K.TreeOp.fits op) (g.K.TreeOp.fits_hole op) (laws_of (g.met.K.TreeOp.upward_laws op)) c.own_node-head.result
    (pending (part_at t b) (c.loop-k.k - 1)) (pending (part_at t b) c.loop-k.k) c.loop-k.stack.items c.fronted-summary.new.stack.items c.fronted-summary.result
    (fronts_of (IsElementOf (g.K.TreeOp.takes op)) t b c.requires.bridge c.loop-k.invariant.few (elements_of (g.K.TreeOp.takes c.args.op.now) c.args.tree.now.ty c.requires.takes c.args.tree.now.tree c.admitted.ensures) c.loop-k.k c.own_node-head.result c.loop-k-test.true c.loop-k.invariant.within c.own_node-head.ensures.head)
    (fit_of (IsElementOf (g.K.TreeOp.takes op)) t b c.requires.bridge c.loop-k.invariant.few (elements_of (g.K.TreeOp.takes c.args.op.now) c.args.tree.now.ty c.requires.takes c.args.tree.now.tree c.admitted.ensures) (c.loop-k.k - 1))
    c.loop-k.invariant.sums c.fronted-summary.ensures in
    record {
      sums = rw c.in_ok-push.ensures.items next;
      within = let w = c.loop-k.invariant.within in omega arith;
      few = c.loop-k.invariant.few;
      steps = let s = c.loop-k.invariant.steps in let w = c.loop-k.invariant.within in let o = c.own_node-head.ensures.one_step in omega arith;
    }

pub taken-requires : goal.taken-requires
taken-requires g c =
    let op = c.args.op.now in
    some_left (g.K.TreeOp.upward op) (IsElementOf (g.K.TreeOp.takes op)) (g.K.TreeOp.fits op) (g.K.TreeOp.fits_hole op) (laws_of (g.met.K.TreeOp.upward_laws op)) (part_at c.args.tree.now.tree c.args.bridge.now) c.loop-k.k c.loop-k.stack.items
    (omega arith) c.loop-k.invariant.sums

pub returns-clause-sums : goal.returns-clause-sums
returns-clause-sums g c =
    let op = c.args.op.now in
    last_is (g.K.TreeOp.upward op) (IsElementOf (g.K.TreeOp.takes op)) (g.K.TreeOp.fits op) (g.K.TreeOp.fits_hole op) (laws_of (g.met.K.TreeOp.upward_laws op)) (part_at c.args.tree.now.tree c.args.bridge.now) c.loop-k.k c.loop-k.stack.items
    c.taken.new.stack.items c.taken.result (omega arith) c.loop-k.invariant.sums c.taken.ensures

pub returns-clause-whole : goal.returns-clause-whole
returns-clause-whole g c =
    let op = c.args.op.now in
    λ none. whole_sum (g.K.TreeOp.upward op) (IsElementOf (g.K.TreeOp.takes op)) (g.K.TreeOp.fits op) (g.K.TreeOp.fits_hole op) c.args.tree.now.tree c.args.bridge.now c.taken.result c.requires.bridge none (returns-clause-sums g c)
