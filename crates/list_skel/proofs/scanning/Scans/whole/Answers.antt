use Rattle.std.proofs.Common.{◌≡◌, ◌≤◌, length, arith, ap, sym, ◌∙◌}
use Rattle.op_laws.specs.declared.TheConstants.{MAX_ELEMENTS}
use Rattle.list_fusion.specs.Pipes.{elements, type_of}
use Rattle.list_skel.proofs.FoldParts.{all-scans, length-either_scan}
use Rattle.list_skel.proofs.scanning.Scans.whole.Goals as goal

pub join-requires-clause-same : goal.join-requires-clause-same
join-requires-clause-same g c = λ k d below.
    let op = c.args.self.now.op.now in
    (c.requires.scans k d (omega (arith, below, c.requires.count))).ty ∙ sym (c.result.ensures ∙ ap (g.M.Lifted.gives op) c.ty.ensures)

pub join-requires-clause-few : goal.join-requires-clause-few
join-requires-clause-few g c =
    let x = c.args.self.now in
    let b = x.blocks in
    let op = x.op.now in
    let p = x.pipe.now in
    let parts = c.blocks_follow.ensures p in
    let whole = all-scans (g.met.M.Lifted.lift_laws op) (g.met.M.Semi.combine_laws op) (type_of p) c.requires.takes p parts b.len b.block b.few x.admitted x.back b.count c.args.lists.now b.covers x.long c.requires.count
    (λ t d below. (c.requires.scans t d below).items) in
    let long = length-either_scan (g.M.Lifted.finished op) (g.M.Lifted.lifted op) (g.M.Semi.combined op) x.back (elements p) in
    omega (arith, ap length whole, long, ap length parts.whole, parts.short 0 (length p.head.items), x.long, b.few)

pub returns-clause-ty : goal.returns-clause-ty
returns-clause-ty g c = rw (c.result.ensures ∙ ap (g.M.Lifted.gives c.args.self.now.op.now) c.ty.ensures) at c.join.ensures.ty

pub returns-clause-items : goal.returns-clause-items
returns-clause-items g c =
    let x = c.args.self.now in
    let b = x.blocks in
    let op = x.op.now in
    let p = x.pipe.now in
    let whole = all-scans (g.met.M.Lifted.lift_laws op) (g.met.M.Semi.combine_laws op) (type_of p) c.requires.takes p (c.blocks_follow.ensures p) b.len b.block b.few x.admitted x.back b.count c.args.lists.now b.covers x.long c.requires.count
    (λ t d below. (c.requires.scans t d below).items) in
    rw whole at c.join.ensures.items
