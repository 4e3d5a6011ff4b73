-- Worked examples of the words of the command line.
use Rattle.std.proofs.Common.{◌≡◌, ℕ, List, [], refl}
use Rattle.std.specs.Prelude.{Result, Ok, Err, codes, ◌==◌}
use Rattle.std.specs.List.{slice_split}
use Rattle.command_words.specs.declared.settings.Settings.{Settings}
use Rattle.command_words.specs.declared.refusal.WordFault.TheVariants.{UnknownCommand, UnknownOption, GivenTwice, NoValue, BadNumber, BadName, InputTwice, OneTooMany}
use Rattle.command_words.specs.Commands.{Command, run, check, plan, bridges, trial}
use Rattle.command_words.specs.Refusals.{Refusal, no_command, at, too_few, refusal_line}
use Rattle.command_words.specs.Words.{command_line}

-- what the words between the spaces of a line say
abbrev say : List ℕ → Result Command Refusal
say line = command_line (slice_split (λ b. b == 32) line)

abbrev settings : ℕ → ℕ → ℕ → Settings
settings m block workers = record { m = m; block = block; workers = workers }

none : command_line [] ≡ Err no_command
none = refl

unknown_command : say (codes "walk") ≡ Err (at (codes "walk") UnknownCommand)
unknown_command = refl

one_operand : say (codes "run s") ≡ Err too_few
one_operand = refl

many_workers : say (codes "run s d --workers 65") ≡ Err (at (codes "65") BadNumber)
many_workers = refl

m_twice : say (codes "run s d --m 2 --m 3") ≡ Err (at (codes "--m") GivenTwice)
m_twice = refl

m_of_check : say (codes "check s --m 2") ≡ Err (at (codes "--m") UnknownOption)
m_of_check = refl

input_twice : say (codes "run - -") ≡ Err (at (codes "-") InputTwice)
input_twice = refl

block_without : say (codes "run s d --block") ≡ Err (at (codes "--block") NoValue)
block_without = refl

check_of_two : say (codes "check s d") ≡ Err (at (codes "d") OneTooMany)
check_of_two = refl

-- the settings that are taken where none are given
run_defaults : say (codes "run s d") ≡ Ok (run (record { script = codes "s"; input = codes "d" }) (settings 1024 4096 2))
run_defaults = refl

-- options stand anywhere after the command
options_between : say (codes "run --workers 64 s --m 4294967295 d --block 1") ≡ Ok (run (record { script = codes "s"; input = codes "d" }) (settings 4294967295 1 64))
options_between = refl

check_one : say (codes "check s") ≡ Ok (check (codes "s"))
check_one = refl

plan_one : say (codes "plan -") ≡ Ok (plan (codes "-"))
plan_one = refl

bridges_of : say (codes "bridges d --m 3 t") ≡ Ok (bridges (codes "d") (codes "t") 3)
bridges_of = refl

greatest_seed : say (codes "trial 18446744073709551615 --m 7") ≡ Ok (trial 18446744073709551615 (settings 7 4096 2))
greatest_seed = refl

past_greatest_seed : say (codes "trial 18446744073709551616") ≡ Err (at (codes "18446744073709551616") BadNumber)
past_greatest_seed = refl

-- the value of an option is the next word, whatever it is
option_as_value : say (codes "run --m --block s d") ≡ Err (at (codes "--block") BadNumber)
option_as_value = refl

-- `given twice` comes before `no value`
twice_before_none : say (codes "run s d --m 2 --m") ≡ Err (at (codes "--m") GivenTwice)
twice_before_none = refl

-- and `unknown option` before both
unknown_before_none : say (codes "check s --m") ≡ Err (at (codes "--m") UnknownOption)
unknown_before_none = refl

-- a word at fault comes before a missing one
too_few_last : say (codes "run s --m") ≡ Err (at (codes "--m") NoValue)
too_few_last = refl

-- the first word at fault counts
in_order : say (codes "run s d e --m 0") ≡ Err (at (codes "e") OneTooMany)
in_order = refl

-- `-1` and `-` are operands
dash_one : say (codes "trial -1") ≡ Err (at (codes "-1") BadNumber)
dash_one = refl

dash_file : say (codes "check -m") ≡ Ok (check (codes "-m"))
dash_file = refl

-- `--` is an option that no command has
dashes : say (codes "run s d --") ≡ Err (at (codes "--") UnknownOption)
dashes = refl

-- standard input twice, with options between
twice_apart : say (codes "run - --m 2 --block 3 -") ≡ Err (at (codes "-") InputTwice)
twice_apart = refl

not_twice : say (codes "run - s -") ≡ Err (at (codes "-") OneTooMany)
not_twice = refl

-- the empty word
empty_command : say (codes "") ≡ Err (at (codes "") UnknownCommand)
empty_command = refl

empty_files : say (codes "run  ") ≡ Ok (run (record { script = codes ""; input = codes "" }) (settings 1024 4096 2))
empty_files = refl

empty_value : say (codes "run --m  s") ≡ Err (at (codes "") BadNumber)
empty_value = refl

empty_name : say (codes "bridges d ") ≡ Err (at (codes "") BadName)
empty_name = refl

long_name : say (codes "bridges d 1t") ≡ Err (at (codes "1t") BadName)
long_name = refl

-- a setting is 1 or more
zero : say (codes "run s d --block 0") ≡ Err (at (codes "0") BadNumber)
zero = refl

-- 20 digits, and not 21
twenty_digits : say (codes "run s d --m 00000000000000000001") ≡ Ok (run (record { script = codes "s"; input = codes "d" }) (settings 1 4096 2))
twenty_digits = refl

more_digits : say (codes "run s d --m 000000000000000000001") ≡ Err (at (codes "000000000000000000001") BadNumber)
more_digits = refl

bridges_block : say (codes "bridges d t --block 2") ≡ Err (at (codes "--block") UnknownOption)
bridges_block = refl

-- the lines that tell of it, whatever is in the word
lines : refusal_line no_command ≡ codes "words: no command\n"
lines = refl

few_line : refusal_line too_few ≡ codes "words: too few words\n"
few_line = refl

word_line : refusal_line (at (codes "a\nb") OneTooMany) ≡ codes "words: a\nb: one word too many\n"
word_line = refl

empty_line : refusal_line (at [] UnknownCommand) ≡ codes "words: : unknown command\n"
empty_line = refl
