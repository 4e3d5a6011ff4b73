use Rattle.std.proofs.Common.{◌-◌, ◌<◌, length, get_or, pos, [], ap, sym, ◌∙◌, arith}
use Rattle.std.proofs.lemmas.List.{length-map}
use Rattle.std.proofs.lemmas.List.Elements.{All-get_or}
use Rattle.op_laws.specs.Admits.{Admits}
use Rattle.list_fusion.specs.Columnar.{place_of}
use Rattle.list_fusion.proofs.HeadLemmas.{length-zipped, length-iota, length-Admits}
use Rattle.list_fusion.proofs.ColumnLemmas.{w64-at, w64-left, w64-right, left-at, right-at, count-at, place-below}
use Rattle.list_fusion.proofs.head.Head.load_component.Goals as goal

pub numbers_64-requires : goal.numbers_64-requires
numbers_64-requires c = w64-at c.in-One.x.now.ty c.args.k (rw c.in-One.is at c.requires.narrow) (rw c.in-One.is at c.requires.component)

pub numbers_64-requires-then-k-width : goal.numbers_64-requires-then-k-width
numbers_64-requires-then-k-width c =
    w64-left c.in-Two.x.now.ty c.in-Two.y.now.ty c.args.k (rw c.in-Two.is at c.requires.narrow) (omega (arith, c.if-k-width.true, c.len-width.ensures.value, ap length c.ty.ensures))

pub load_numbers-requires-then-k-width-clause-within : goal.load_numbers-requires-then-k-width-clause-within
load_numbers-requires-then-k-width-clause-within c =
    let x = c.in-Two.x.now in
    let can = rw c.in-Two.is at c.requires.can in
    let within = rw c.in-Two.is at c.requires.within in
    let long = ap length c.numbers_64-then-k-width.ensures ∙ length-map x.items (λ e. get_or e c.args.k (pos 0)) in
    omega (arith, long, within, length-zipped x.items c.in-Two.y.now.items can.0)

pub numbers_64-requires-else-k-width : goal.numbers_64-requires-else-k-width
numbers_64-requires-else-k-width c =
    w64-right c.in-Two.x.now.ty c.in-Two.y.now.ty c.args.k c.len-width.result (rw c.in-Two.is at c.requires.narrow) (c.len-width.ensures.value ∙ ap length c.ty.ensures) (omega (arith, c.if-k-width.false)) (rw c.in-Two.is at c.requires.component)

pub load_numbers-requires-else-k-width-clause-within : goal.load_numbers-requires-else-k-width-clause-within
load_numbers-requires-else-k-width-clause-within c =
    let y = c.in-Two.y.now in
    let can = rw c.in-Two.is at c.requires.can in
    let within = rw c.in-Two.is at c.requires.within in
    let long = ap length c.numbers_64-else-k-width.ensures ∙ length-map y.items (λ e. get_or e (c.args.k - c.len-width.result) (pos 0)) in
    omega (arith, long, within, can.0, length-zipped c.in-Two.x.now.items y.items can.0)

pub returns-then-k-width : goal.returns-then-k-width
returns-then-k-width c =
    let x = c.in-Two.x.now in
    let y = c.in-Two.y.now in
    let can = rw c.in-Two.is at c.requires.can in
    let within = rw c.in-Two.is at c.requires.within in
    rw c.in-Two.is (λ j h.
    let i = place_of c.args.reversed c.args.from c.args.to j in
    let there : i < length x.items = omega (arith, place-below c.args.reversed c.args.from c.args.to j h, within, length-zipped x.items y.items can.0) in
    let long = length-Admits x.ty (get_or x.items i []) (All-get_or (Admits x.ty) x.items i [] there c.admitted.ensures) in
    c.load_numbers-then-k-width.ensures j h
    ∙ left-at x.items y.items c.numbers_64-then-k-width.result.now c.args.k i c.len-width.result c.numbers_64-then-k-width.ensures can.0 there
    (long ∙ sym (c.len-width.ensures.value ∙ ap length c.ty.ensures)) c.if-k-width.true)

pub returns-else-k-width : goal.returns-else-k-width
returns-else-k-width c =
    let x = c.in-Two.x.now in
    let y = c.in-Two.y.now in
    let can = rw c.in-Two.is at c.requires.can in
    let within = rw c.in-Two.is at c.requires.within in
    rw c.in-Two.is (λ j h.
    let i = place_of c.args.reversed c.args.from c.args.to j in
    let there : i < length x.items = omega (arith, place-below c.args.reversed c.args.from c.args.to j h, within, length-zipped x.items y.items can.0) in
    let long = length-Admits x.ty (get_or x.items i []) (All-get_or (Admits x.ty) x.items i [] there c.admitted.ensures) in
    c.load_numbers-else-k-width.ensures j h
    ∙ right-at x.items y.items c.numbers_64-else-k-width.result.now c.args.k i c.len-width.result c.numbers_64-else-k-width.ensures can.0 there
    (long ∙ sym (c.len-width.ensures.value ∙ ap length c.ty.ensures)) (omega (arith, c.if-k-width.false)))

pub returns-in-Iota : goal.returns-in-Iota
returns-in-Iota c =
    let n = c.in-Iota.field-0 in
    let within = rw c.in-Iota.is at c.requires.within in
    let component = rw c.in-Iota.is at c.requires.component in
    rw c.in-Iota.is (λ j h.
    let i = place_of c.args.reversed c.args.from c.args.to j in
    let there : i < n = omega (arith, place-below c.args.reversed c.args.from c.args.to j h, within, length-iota n) in
    c.load_count.ensures j h ∙ count-at n i c.args.k there component)
