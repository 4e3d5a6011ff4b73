use Rattle.std.proofs.Common.{◌<◌, length, get_or, [], ap, ◌∙◌, arith}
use Rattle.std.proofs.lemmas.List.{length-append}
use Rattle.std.proofs.lemmas.List.Elements.{All-get_or}
use Rattle.op_laws.specs.Admits.{Admits}
use Rattle.list_fusion.proofs.HeadLemmas.{length-zipped, get_or-zipped, length-iota, get_or-iota, length-Admits}
use Rattle.list_fusion.proofs.head.Head.lengths.Goals as goal

pub returns-in-One : goal.returns-in-One
returns-in-One c =
    let x = c.in-One.x.now in
    rw c.in-One.is (λ i h. length-Admits x.ty (get_or x.items i []) (All-get_or (Admits x.ty) x.items i [] h c.admitted.ensures))

pub returns-in-Two : goal.returns-in-Two
returns-in-Two c =
    let x = c.in-Two.x.now in
    let y = c.in-Two.y.now in
    let can = rw c.in-Two.is at c.requires in
    rw c.in-Two.is (λ i h.
    let first : i < length x.items = omega (arith, h, length-zipped x.items y.items can.0) in
    let second : i < length y.items = omega (arith, first, can.0) in
    let a = length-Admits x.ty (get_or x.items i []) (All-get_or (Admits x.ty) x.items i [] first c.admitted-in-Two.ensures) in
    let b = length-Admits y.ty (get_or y.items i []) (All-get_or (Admits y.ty) y.items i [] second c.admitted-in-Two-2.ensures) in
    ap length (get_or-zipped x.items y.items i first second)
    ∙ omega (arith, a, b, length-append (get_or x.items i []) (get_or y.items i []), length-append x.ty y.ty))

pub returns-in-Iota : goal.returns-in-Iota
returns-in-Iota c =
    let n = c.in-Iota.field-0 in
    rw c.in-Iota.is (λ i h. ap length (get_or-iota n i (omega (arith, h, length-iota n))))
