use Rattle.std.proofs.Common.{◌≡◌, ◌-◌, ◌<◌, get_or, true, arith}
use Rattle.std.specs.Char.{is_ascii_digit}
use Rattle.data_text.proofs.FrontLemmas.{more_digits, all_more}
use Rattle.data_text.proofs.front.front_digits.Goals as goal

pub overflow_mul-n : goal.overflow_mul-n
overflow_mul-n c =
    let bytes = c.args.bytes.now in
    let digit : is_ascii_digit (get_or bytes c.loop-i.i 0) ≡ true = cc in
    let few : c.loop-i.i < 19 = omega arith in
    let h = more_digits bytes c.loop-i.i c.loop-i.n c.loop-i-test.true few c.loop-i.invariant.digits digit c.loop-i.invariant.value in
    omega (arith, h.1)

pub overflow_add-n : goal.overflow_add-n
overflow_add-n c =
    let bytes = c.args.bytes.now in
    let digit : is_ascii_digit (get_or bytes c.loop-i.i 0) ≡ true = cc in
    let few : c.loop-i.i < 19 = omega arith in
    let h = more_digits bytes c.loop-i.i c.loop-i.n c.loop-i-test.true few c.loop-i.invariant.digits digit c.loop-i.invariant.value in
    let d : c.from.result ≡ get_or bytes c.loop-i.i 0 - 48 = omega arith in
    omega (arith, h.1, d)

pub loop-i-preserved : goal.loop-i-preserved
loop-i-preserved c =
    let bytes = c.args.bytes.now in
    let digit : is_ascii_digit (get_or bytes c.loop-i.i 0) ≡ true = cc in
    let few : c.loop-i.i < 19 = omega arith in
    let h = more_digits bytes c.loop-i.i c.loop-i.n c.loop-i-test.true few c.loop-i.invariant.digits digit c.loop-i.invariant.value in
    let d : c.from.result ≡ get_or bytes c.loop-i.i 0 - 48 = omega arith in
    record { few = omega arith; digits = all_more bytes c.loop-i.i c.loop-i-test.true c.loop-i.invariant.digits digit; value = rw d h.0 }
