use Rattle.std.proofs.Common.{◌≡◌, ◌+◌, ◌-◌, ◌≤◌, get_or, arith, ◌∙◌}
use Rattle.op_laws.specs.declared.TheConstants.{MAX_ELEMENTS}
use Rattle.op_laws.specs.Folds.{fold_of}
use Rattle.list_fusion.specs.Pipes.{type_of}
use Rattle.list_skel.specs.Blocks.{cut_at, outer_places}
use Rattle.list_skel.specs.Given.{outer}
use Rattle.list_skel.proofs.CutLemmas.{outer-few}
use Rattle.list_skel.proofs.FoldParts.{outer-fits, if_ok_both, scan-given}
use Rattle.list_skel.proofs.scanning.ScansTask.run.Goals as goal

pub scan_block-requires-clause-before : goal.scan_block-requires-clause-before
scan_block-requires-clause-before g c =
    let b = c.args.self.now in
    let op = b.op.now in
    let held = b.outers c.args.ticket c.index-self-ticket.result c.requires in
    rw (held, c.outside-places.ensures)
    (outer-fits (g.met.M.Lifted.lift_laws op) (g.met.M.Semi.combine_laws op) (type_of b.pipe.now) c.confirm.ensures b.pipe.now (c.blocks_follow.ensures b.pipe.now) b.blocks.len b.blocks.block b.blocks.few b.admitted b.back c.args.ticket)

pub scan_block-requires-clause-few : goal.scan_block-requires-clause-few
scan_block-requires-clause-few g c =
    let b = c.args.self.now in
    omega (arith, outer-few b.back b.blocks.len b.blocks.block c.args.ticket, c.outside-places.ensures, c.at-from.ensures, c.end-to.ensures, b.blocks.few)

pub returns : goal.returns
returns g c =
    let b = c.args.self.now in
    let op = b.op.now in
    let lifted = g.M.Lifted.lifted op in
    let combined = g.M.Semi.combined op in
    let held = b.outers c.args.ticket c.index-self-ticket.result c.requires in
    let same = scan-given (g.M.Lifted.finished op) lifted combined b.pipe.now b.blocks.len b.blocks.block c.args.ticket b.back (get_or b.held.now c.args.ticket c.index-self-ticket.result)
    (fold_of lifted combined (outer b.back b.pipe.now b.blocks.len b.blocks.block c.args.ticket)) c.at-from.result c.end-to.result held c.at-from.ensures c.end-to.ensures in
    if_ok_both c.scan_block.result (λ x ty items. record { ty = ty; items = items ∙ same }) c.scan_block.ensures.ty c.scan_block.ensures.items
