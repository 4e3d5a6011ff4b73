-- The values of settings are in their ranges.
use Rattle.std.proofs.Common.{◌≡◌, ℕ, ◌≤◌, Bool, true, false, List, [], ◌∷◌, length, Option, Some, None, IfSome, refl, sym, subst, lit≤, arith}
use Rattle.std.specs.Prelude.{nat_le, ◌&&◌, bytes_eq, option_and_then, option_map, unwrap_or, if◌then◌else◌}
use Rattle.std.specs.Option.{option_or}
use Rattle.std.proofs.lemmas.Bool.Decides.{nat_tests}
use Rattle.plain_text.specs.Numbers.{kept_if, count_of}
use Rattle.command_words.specs.declared.command.Verb.{Verb}
use Rattle.command_words.specs.declared.command.Verb.TheVariants.{Run, Check, Plan, Bridges, Trial}
use Rattle.command_words.specs.declared.command.Setting.{Setting}
use Rattle.command_words.specs.declared.command.Setting.TheVariants.{M, Block, Workers}
use Rattle.command_words.specs.declared.settings.Settings.{Settings}
use Rattle.command_words.specs.Commands.{Command, trial, option_of, greatest_of, default_of, IsInRange, AreInRange, HasRange}
use Rattle.command_words.specs.Words.{Item, operand, option, value_in, value_by, value_of, seed_in, settings_given, command_with}

at_most : (m n : ℕ) → nat_le m n ≡ true → m ≤ n
at_most m n e = grind (arith, nat_tests)

kept_where : (s : Setting) (n : ℕ) (low high : Bool) → nat_le 1 n ≡ low → nat_le n (greatest_of s) ≡ high → IfSome (if low && high then Some n else None) (IsInRange s)
kept_where s n false high e f = tt
kept_where s n true false e f = tt
kept_where s n true true e f = (at_most 1 n e, at_most n (greatest_of s) f)

kept : (s : Setting) (o : Option ℕ) → IfSome (option_and_then (kept_if (λ n. nat_le 1 n && nat_le n (greatest_of s))) o) (IsInRange s)
kept s None = tt
kept s (Some n) = kept_where s n (nat_le 1 n) (nat_le n (greatest_of s)) refl refl

by_word : (s : Setting) (value : Option (List ℕ)) → IfSome (option_and_then (value_in s) value) (IsInRange s)
by_word s None = tt
by_word s (Some word) = kept s (if nat_le (length word) 20 then count_of word else None)

where_its : (s : Setting) (b : Bool) (o : Option ℕ) → IfSome o (IsInRange s) → IfSome (if b then o else None) (IsInRange s)
where_its s true o h = h
where_its s false o h = tt

by_item : (s : Setting) (item : Item) → IfSome (value_by s item) (IsInRange s)
by_item s (operand word) = tt
by_item s (option word value) = where_its s (bytes_eq word (option_of s)) (option_and_then (value_in s) value) (by_word s value)

either : (s : Setting) (o p : Option ℕ) → IfSome o (IsInRange s) → IfSome p (IsInRange s) → IfSome (option_or o p) (IsInRange s)
either s None p h k = k
either s (Some n) p h k = h

by_items : (s : Setting) (items : List Item) → IfSome (value_of s items) (IsInRange s)
by_items s [] = tt
by_items s (item ∷ items) = either s (value_by s item) (value_of s items) (by_item s item) (by_items s items)

or_default : (s : Setting) (o : Option ℕ) → IfSome o (IsInRange s) → IsInRange s (default_of s) → IsInRange s (unwrap_or o (default_of s))
or_default s None h u = u
or_default s (Some n) h u = h

defaults : (s : Setting) → IsInRange s (default_of s)
defaults M = (lit≤ tt, lit≤ tt)
defaults Block = (lit≤ tt, lit≤ tt)
defaults Workers = (lit≤ tt, lit≤ tt)

-- the settings that items give
pub settings_given-in_range : (items : List Item) → AreInRange (settings_given items)
settings_given-in_range items = record {
  m = or_default M (value_of M items) (by_items M items) (defaults M);
  block = or_default Block (value_of Block items) (by_items Block items) (defaults Block);
  workers = or_default Workers (value_of Workers items) (by_items Workers items) (defaults Workers);
}

of_trial : (o : Option ℕ) (settings : Settings) → AreInRange settings → IfSome (option_map (λ n. trial n settings) o) HasRange
of_trial None settings h = tt
of_trial (Some n) settings h = h

-- a command of settings in their ranges
commands : (verb : Verb) (operands : List (List ℕ)) (settings : Settings) → AreInRange settings → IfSome (command_with verb operands settings) HasRange
commands Run [] settings h = tt
commands Run (a ∷ []) settings h = tt
commands Run (a ∷ b ∷ []) settings h = h
commands Run (a ∷ b ∷ c ∷ ds) settings h = tt
commands Check [] settings h = tt
commands Check (a ∷ []) settings h = tt
commands Check (a ∷ b ∷ cs) settings h = tt
commands Plan [] settings h = tt
commands Plan (a ∷ []) settings h = tt
commands Plan (a ∷ b ∷ cs) settings h = tt
commands Bridges [] settings h = tt
commands Bridges (a ∷ []) settings h = tt
commands Bridges (a ∷ b ∷ []) settings h = h.m
commands Bridges (a ∷ b ∷ c ∷ ds) settings h = tt
commands Trial [] settings h = tt
commands Trial (seed ∷ []) settings h = of_trial (seed_in seed) settings h
commands Trial (a ∷ b ∷ cs) settings h = tt

pub command-in_range : (verb : Verb) (operands : List (List ℕ)) (settings : Settings) (command : Command) → AreInRange settings → Some command ≡ command_with verb operands settings → HasRange command
command-in_range verb operands settings command h e =
    let P : Option Command → Type 0 = λ o. IfSome o HasRange in subst P (sym e) (commands verb operands settings h)
