-- Numbers at the ends of their ranges.
use Rattle.std.proofs.Common.{◌≡◌, ℕ, ◌+◌, ◌*◌, ◌<◌, ◌-◌, Bool, true, false, List, length, get_or, arith}
use Rattle.std.specs.Prelude.{min, pos, neg_ℤ, if◌then◌else◌, ◌&&◌, nat_lt}
use Rattle.std.proofs.lemmas.List.Sums.{AllPass-from_list_all}
use Rattle.std.proofs.lemmas.Bool.Decides.{nat_tests}
use Rattle.std.proofs.lemmas.Grind.{common_steps}
use Rattle.plain_text.specs.Numbers.{kept_if, is_w64, is_digits}
use Rattle.std.specs.Char.{digit_value, is_ascii_digit}

-- past the greatest number of 64 bits it is in no range
pub capped : (negative : Bool) (n : ℕ) → kept_if is_w64 (if negative then neg_ℤ (pos (min n 18446744073709551615)) else pos (min n 18446744073709551615)) ≡ kept_if is_w64 (if negative then neg_ℤ (pos n) else pos n)
capped true n = grind (arith, common_steps)
capped false n = grind (arith, common_steps)

second_true : (a b : Bool) → (a && b) ≡ true → b ≡ true
second_true true b e = e
second_true false b e = cc

digit_byte : (c : ℕ) → is_ascii_digit c ≡ true → digit_value c ≡ c - 48
digit_byte c e = grind (arith, nat_tests)

-- a digit of a word of digits
pub digit_at : (text : List ℕ) (i : ℕ) → is_digits text ≡ true → i < length text → digit_value (get_or text i 0) ≡ get_or text i 0 - 48
digit_at text i e lt =
    let here : is_ascii_digit (get_or text i 0) ≡ true = AllPass-from_list_all is_ascii_digit text (second_true (nat_lt 0 (length text)) _ e) i 0 lt in
    digit_byte _ here

-- one more digit, capped
pub next_capped : (n v d : ℕ) → n ≡ min v 18446744073709551615 → (m : ℕ) → m ≡ min (min (n * 10) 18446744073709551615 + d) 18446744073709551615 → m ≡ min (v * 10 + d) 18446744073709551615
next_capped n v d e m f = grind arith
