use Rattle.op_laws.specs.Laws.{IsElementOf}
use Rattle.bridge_contract.proofs.Laws.{laws_of}
use Rattle.std.proofs.Common.{◌≡◌, ◌≤◌, ◌-◌, sym, ◌∙◌, ap, refl, ◌++◌, ◌∷◌, [], arith}
use Rattle.bridge_contract.proofs.JoinLemmas.{can, raise_more, raise_none, raise_all}
use Rattle.bridge_contract.proofs.joining.join_up.Goals as goal

pub loop-i-init : goal.loop-i-init
loop-i-init g c = record {
  raised = raise_none (g.K.TreeOp.upward c.args.op.now) c.args.parts.now c.new-stack.result.items c.new-out.result.items c.new-stack.ensures.items c.new-out.ensures.items;
  within = omega arith;
}

pub raise-raised-requires : goal.raise-raised-requires
raise-raised-requires g c =
    let op = c.args.op.now in
    can (g.K.TreeOp.upward op) (IsElementOf (g.K.TreeOp.takes op)) (g.K.TreeOp.fits op) (g.K.TreeOp.fits_hole op) (laws_of (g.met.K.TreeOp.upward_laws op)) c.args.parts.now c.loop-i.i c.index-parts-i.result c.loop-i.stack.items c.loop-i.out.items
    c.requires c.loop-i-test.true c.loop-i.invariant.within c.index-parts-i.is c.loop-i.invariant.raised

pub loop-i-preserved : goal.loop-i-preserved
loop-i-preserved g c =
    let op = c.args.op.now in
    let more = raise_more (g.K.TreeOp.upward op) c.args.parts.now c.loop-i.i c.index-parts-i.result c.loop-i.stack.items c.raise-raised.new.stack.items c.loop-i.out.items c.raise-raised.result
    c.loop-i-test.true c.loop-i.invariant.within c.index-parts-i.is c.raise-raised.ensures c.loop-i.invariant.raised in
    record {
      raised = rw (c.in_ok-push.ensures.items, c.in_ok-push-2.ensures.items) more;
      within = let w = c.loop-i.invariant.within in omega arith;
    }
