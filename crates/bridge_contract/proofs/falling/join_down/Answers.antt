use Rattle.std.proofs.Common.{◌≡◌, ◌+◌, ◌≤◌, ◌++◌, ◌∷◌, [], refl, sym, ap, ◌∙◌, arith}
use Rattle.bridge_contract.proofs.FallLemmas.{begins, can_drop, falls_on, fallen_all}
use Rattle.bridge_contract.proofs.falling.join_down.Goals as goal

pub loop-part-init : goal.loop-part-init
loop-part-init g c =
    let op = c.args.op.now in
    begins (g.D.DownOp.downward op) (g.D.DownOp.fits op) (g.D.DownOp.fits_way op) c.args.c c.args.parts.now c.push.new.self.items c.new-out.result.items
    (c.in_ok-push.ensures.items ∙ ap (λ x. x ++ (c.args.c, 1) ∷ []) c.new-stack.ensures.items) c.new-out.ensures.items c.requires.value

pub drop_part-requires : goal.drop_part-requires
drop_part-requires g c =
    let op = c.args.op.now in
    can_drop (g.D.DownOp.downward op) (g.D.DownOp.fits op) (g.D.DownOp.fits_way op) c.args.c c.args.parts.now c.loop-part.part-index c.loop-part.stack.items c.loop-part.out.items c.part-item.result
    c.loop-part-test.true c.part-item.is c.requires.parts c.loop-part.invariant

pub loop-part-preserved : goal.loop-part-preserved
loop-part-preserved g c =
    let op = c.args.op.now in
    let next = falls_on (g.D.DownOp.downward op) (g.D.DownOp.fits op) (g.D.DownOp.fits_way op) (g.met.D.DownOp.downward_laws op).down_fits c.args.c c.args.parts.now c.loop-part.part-index c.loop-part.stack.items c.drop_part.new.stack.items
    c.loop-part.out.items c.part-item.result c.in_ok-value.value c.loop-part-test.true c.part-item.is c.in_ok-value.ensures c.loop-part.invariant in
    rw c.in_ok-push-2.ensures.items next

pub returns : goal.returns
returns g c =
    let op = c.args.op.now in
    fallen_all (g.D.DownOp.downward op) (g.D.DownOp.fits op) (g.D.DownOp.fits_way op) c.args.c c.args.parts.now c.loop-part.part-index c.loop-part.stack.items c.loop-part.out.items c.loop-part-test.false c.loop-part.invariant
