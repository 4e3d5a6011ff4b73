use Rattle.std.proofs.Common.{◌≡◌, ◌<◌, length, pos, [], ◌∷◌, sym, ◌∙◌, arith, rules}
use Rattle.op_laws.specs.Lists.{zipped}
use Rattle.list_fusion.proofs.HeadLemmas.{length-zipped, get_or-zipped, length-iota, get_or-iota, Admits-append, length-Admits}
use Rattle.list_fusion.proofs.head.Head.at.Goals as goal

pub at-requires-in-Two : goal.at-requires-in-Two
at-requires-in-Two c =
    let can = rw c.in-Two.is at c.requires.can in
    let within = rw c.in-Two.is at c.requires.within in
    omega (arith, length-zipped c.in-Two.x.now.items c.in-Two.y.now.items can.0, within)

pub join-requires : goal.join-requires
join-requires c =
    let can = rw c.in-Two.is at c.requires.can in
    omega (arith, can.1, length-Admits c.in-Two.x.now.ty c.at-in-Two.result c.at-in-Two.ensures.admitted, length-Admits c.in-Two.y.now.ty c.at-in-Two-2.result c.at-in-Two-2.ensures.admitted)

pub returns-in-Two-clause-value : goal.returns-in-Two-clause-value
returns-in-Two-clause-value c =
    let x = c.in-Two.x.now.items in
    let y = c.in-Two.y.now.items in
    let can = rw c.in-Two.is at c.requires.can in
    let within : c.args.i < length (zipped x y) = rw c.in-Two.is at c.requires.within in
    let long = length-zipped x y can.0 in
    rw (c.in-Two.is, c.join.ensures, c.at-in-Two.ensures.value, c.at-in-Two-2.ensures.value) (sym (get_or-zipped x y c.args.i (omega (arith, long, within)) (omega (arith, long, within, can.0))))

pub returns-in-Two-clause-admitted : goal.returns-in-Two-clause-admitted
returns-in-Two-clause-admitted c =
    rw (c.in-Two.is, c.join.ensures) (Admits-append c.in-Two.x.now.ty c.in-Two.y.now.ty c.at-in-Two.result c.at-in-Two-2.result c.at-in-Two.ensures.admitted c.at-in-Two-2.ensures.admitted)

pub returns-in-Iota-clause-value : goal.returns-in-Iota-clause-value
returns-in-Iota-clause-value c =
    let n = c.in-Iota.field-0 in
    let within = rw c.in-Iota.is at c.requires.within in
    let one : c.one.result ≡ pos c.args.i ∷ [] = search rules in
    rw c.in-Iota.is (one ∙ sym (get_or-iota n c.args.i (omega (arith, length-iota n, within))))
