use Rattle.std.proofs.Common.{◌≡◌, ◌≤◌, ℕ, List, true, take}
use Rattle.std.specs.List.{list_all}
use Rattle.std.specs.Char.{is_ascii_digit}
use Rattle.std.specs.Str.Parse.{digits_value}
use Rattle.data_text.proofs.front.front_digits.Given as goal

-- so many digits write n
pub record AreFront (bytes : List ℕ) (count n : ℕ) : Type 0 where
  pub few : count ≤ 19
  pub digits : list_all is_ascii_digit (take count bytes) ≡ true
  pub value : n ≡ digits_value 10 (take count bytes)

abbrev pub invariant-loop-i : goal.invariant-loop-i
invariant-loop-i l = AreFront l.bytes l.i l.n
