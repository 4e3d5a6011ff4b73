use Rattle.op_laws.specs.Laws.{IsElementOf}
use Rattle.bridge_contract.specs.Bridged.{CanRaise, Tops}
use Rattle.bridge_contract.proofs.Laws.{laws_of}
use Rattle.std.proofs.Common.{◌-◌, ◌++◌, ◌∷◌, sym, subst, refl, [], arith}
use Rattle.bridge_contract.proofs.JoinLemmas.{can, raise_more, raise_none, below_more, below_none, below_all}
use Rattle.bridge_contract.proofs.joining.join_below.Goals as goal

pub loop-i-init : goal.loop-i-init
loop-i-init g c = record {
  raised = ([], raise_none (g.K.TreeOp.upward c.args.op.now) c.args.parts.now c.new-stack.result.items [] c.new-stack.ensures.items refl);
  below = below_none (g.K.TreeOp.upward c.args.op.now) c.args.parts.now c.new-out.result.items c.new-out.ensures.items;
  within = omega arith;
}

pub on_top-below-requires : goal.on_top-below-requires
on_top-below-requires g c =
    let op = c.args.op.now in
    subst (CanRaise (g.K.TreeOp.fits op) (g.K.TreeOp.fits_hole op) c.index-parts-i.result) (sym c.deref.ensures.value)
    (can (g.K.TreeOp.upward op) (IsElementOf (g.K.TreeOp.takes op)) (g.K.TreeOp.fits op) (g.K.TreeOp.fits_hole op) (laws_of (g.met.K.TreeOp.upward_laws op)) c.args.parts.now c.loop-i.i c.index-parts-i.result c.loop-i.stack.items c.loop-i.invariant.raised.0
    c.requires c.loop-i-test.true c.loop-i.invariant.within c.index-parts-i.is c.loop-i.invariant.raised.1)

pub raise-raised-requires : goal.raise-raised-requires
raise-raised-requires g c =
    let op = c.args.op.now in
    can (g.K.TreeOp.upward op) (IsElementOf (g.K.TreeOp.takes op)) (g.K.TreeOp.fits op) (g.K.TreeOp.fits_hole op) (laws_of (g.met.K.TreeOp.upward_laws op)) c.args.parts.now c.loop-i.i c.index-parts-i-in-loop-i.result c.loop-i.stack.items c.loop-i.invariant.raised.0
    c.requires c.loop-i-test.true c.loop-i.invariant.within c.index-parts-i-in-loop-i.is c.loop-i.invariant.raised.1

pub loop-i-preserved : goal.loop-i-preserved
loop-i-preserved g c =
    let op = c.args.op.now in
    let more = raise_more (g.K.TreeOp.upward op) c.args.parts.now c.loop-i.i c.index-parts-i-in-loop-i.result c.loop-i.stack.items c.raise-raised.new.stack.items c.loop-i.invariant.raised.0 c.raise-raised.result
    c.loop-i-test.true c.loop-i.invariant.within c.index-parts-i-in-loop-i.is c.raise-raised.ensures c.loop-i.invariant.raised.1 in
    let tops = subst (λ st. Tops c.index-parts-i.result st c.on_top-below.result) c.deref.ensures.value c.on_top-below.ensures in
    let pairs = below_more (g.K.TreeOp.upward op) c.args.parts.now c.loop-i.i c.index-parts-i.result c.loop-i.stack.items c.loop-i.invariant.raised.0 c.loop-i.out.items c.on_top-below.result
    c.loop-i-test.true c.loop-i.invariant.within c.index-parts-i.is tops c.loop-i.invariant.raised.1 c.loop-i.invariant.below in
    record {
      raised = (c.loop-i.invariant.raised.0 ++ c.raise-raised.result.0 ∷ [], rw c.in_ok-push.ensures.items more);
      below = rw c.in_ok-push-2.ensures.items pairs;
      within = let w = c.loop-i.invariant.within in omega arith;
    }

pub returns : goal.returns
returns g c = below_all (g.K.TreeOp.upward c.args.op.now) c.args.parts.now c.loop-i.i c.loop-i.out.items c.reverse.new.self.items (omega arith) c.reverse.ensures.items c.loop-i.invariant.below
