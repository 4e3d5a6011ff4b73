-- Numbers of several digits.
use Rattle.std.proofs.Common.{◌≡◌, ℕ, ◌^◌, ◌<◌, List, length, Bool, true, false, Some, None, Result, Ok, Err, OkIff, refl, arith, rules, tests}
use Rattle.std.specs.Prelude.{nat_lt, nat_le, ◌&&◌, option_and_then, if◌then◌else◌}
use Rattle.std.specs.List.{list_all}
use Rattle.std.specs.Char.{is_ascii_digit}
use Rattle.std.specs.Str.Parse.{digits_value, ParsesUnsigned}
use Rattle.std.proofs.lemmas.Str.Parse.{IsNumeralModel, numerals_by_value, parse_digits}
use Rattle.std.proofs.lemmas.Bool.Decides.{nat_tests}
use Rattle.std.proofs.lemmas.Grind.{common_steps}
use Rattle.plain_text.specs.Numbers.{kept_if}
use Rattle.command_words.specs.Words.{number_in}

own : IsNumeralModel (λ ds. list_all is_ascii_digit ds ≡ true) (digits_value 10)
own = numerals_by_value _ (search rules)

not_kept : (least most n : ℕ) → (n < 2 ^ 64 → ⊥) → most < 2 ^ 64 → kept_if (λ n. nat_le least n && nat_le n most) n ≡ None
not_kept least most n large fits = let past : most < n = omega arith in grind (arith, nat_tests, common_steps)

none_kept : (short some digits : Bool) (least most n : ℕ) → (some ≡ true → n < 2 ^ 64 → ⊥) → most < 2 ^ 64
    → option_and_then (kept_if (λ n. nat_le least n && nat_le n most)) (if short then (if some && digits then Some n else None) else None) ≡ None
none_kept false some digits least most n large fits = refl
none_kept true false digits least most n large fits = refl
none_kept true true false least most n large fits = refl
none_kept true true true least most n large fits = not_kept least most n (large refl) fits

not_in_64 : {E : Type 0} (word : List ℕ) (r : Result ℕ E) (e : E) → r ≡ Err e → OkIff r ((0 < length word) × (digits_value 10 word < 2 ^ 64)) (digits_value 10 word) → 0 < length word → digits_value 10 word < 2 ^ 64 → ⊥
not_in_64 word (Ok n) e is h some fits = cc
not_in_64 word (Err e') e is h some fits = h (some, fits)

-- digits that are no number of 64 bits are in no range
pub too_large : {E : Type 0} (least most : ℕ) (word : List ℕ) (r : Result ℕ E) (e : E) → r ≡ Err e → ParsesUnsigned 64 10 word r → list_all is_ascii_digit word ≡ true → most < 2 ^ 64 → number_in least most word ≡ None
too_large least most word r e is parsed digits fits =
    none_kept (nat_le (length word) 20) (nat_lt 0 (length word)) (list_all is_ascii_digit word) least most (digits_value 10 word)
    (λ some. not_in_64 word r e is (parse_digits own 64 word r parsed digits) (search (rules, tests))) fits
