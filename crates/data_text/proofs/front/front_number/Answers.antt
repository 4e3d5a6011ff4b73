use Rattle.std.proofs.Common.{◌≡◌, arith, to_z, of_z, w64}
use Rattle.std.proofs.lemmas.Int.{to_z-of_z}
use Rattle.data_text.proofs.FrontLemmas.{sign_of, fronts_of}
use Rattle.data_text.proofs.front.front_number.Goals as goal

pub returns-in-Some-signed_front : goal.returns-in-Some-signed_front
returns-in-Some-signed_front c =
    let x = c.in-Some-signed_front.x in
    let same : to_z w64 (of_z w64 x) ≡ x = grind (arith, to_z-of_z) in
    rw (same, c.in-Some.ensures.cases.0, c.if-first-eq45.true) (sign_of c.in-Some.rest.now x c.in-Some-signed_front.count c.in-Some-signed_front.ensures)

pub returns-else-first-eq45 : goal.returns-else-first-eq45
returns-else-first-eq45 c = fronts_of c.signed_front-else-first-eq45.result c.args.bytes.now c.signed_front-else-first-eq45.ensures
