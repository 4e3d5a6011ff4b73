use Rattle.std.proofs.Common.{◌≡◌, ◌≤◌, length, arith, ap, sym, ◌∙◌}
use Rattle.op_laws.specs.declared.TheConstants.{MAX_ELEMENTS}
use Rattle.op_laws.specs.Elements.{Elements}
use Rattle.list_fusion.specs.Pipes.{elements}
use Rattle.list_skel.specs.Given.{all_items}
use Rattle.list_skel.proofs.CutLemmas.{all-pieces}
use Rattle.list_skel.proofs.building.build.Goals as goal

pub join-requires-clause-few : goal.join-requires-clause-few
join-requires-clause-few g c =
    let p = c.args.pipe.now in
    let parts = c.blocks_follow.ensures p in
    let b = c.of-blocks.result in
    let long = c.of-blocks.ensures.len ∙ c.head_len.ensures in
    let whole = all-pieces p parts b.len b.block b.count c.in_ok-lists.lists.items b.covers long c.in_ok-lists.ensures.count (λ t d below. (c.in_ok-lists.ensures.each t d below).1) in
    omega (arith, ap length (ap all_items c.as_slice.ensures.value ∙ whole ∙ sym parts.whole), parts.short 0 (length p.head.items), c.head_len.ensures)

pub returns-clause-items : goal.returns-clause-items
returns-clause-items g c =
    let p = c.args.pipe.now in
    let parts = c.blocks_follow.ensures p in
    let b = c.of-blocks.result in
    let long = c.of-blocks.ensures.len ∙ c.head_len.ensures in
    let whole = all-pieces p parts b.len b.block b.count c.in_ok-lists.lists.items b.covers long c.in_ok-lists.ensures.count (λ t d below. (c.in_ok-lists.ensures.each t d below).1) in
    rw (ap all_items c.as_slice.ensures.value ∙ whole) at c.join.ensures.items
