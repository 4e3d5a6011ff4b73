use Rattle.std.proofs.Common.{◌≡◌, ◌+◌, ◌<◌, ◌≤◌, length, arith, ap, sym, ◌∙◌}
use Rattle.op_laws.specs.declared.TheConstants.{MAX_ELEMENTS}
use Rattle.list_skel.specs.Given.{all_items}
use Rattle.list_skel.proofs.CutLemmas.{items-within}
use Rattle.list_skel.proofs.joining.join.Goals as goal

pub append-requires-clause-same : goal.append-requires-clause-same
append-requires-clause-same c =
    ap (λ x. x.ty) c.list-item.is ∙ c.requires.same c.loop-list.list-index c.list-item.result c.loop-list-test.true ∙ sym c.loop-list.invariant.ty

pub append-requires-clause-room : goal.append-requires-clause-room
append-requires-clause-room c =
    let x = c.list-item.result in
    let within = items-within c.args.lists.now c.loop-list.list-index x c.loop-list-test.true in
    omega (arith, within, ap (λ y. length y.items) c.list-item.is, ap length c.loop-list.invariant.items, c.requires.few)
