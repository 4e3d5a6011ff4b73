-- The words of the command line: a command with its operands and settings, or the first refusal.
use Rattle.std.specs.Prelude.{ℕ, Bool, false, not, ◌&&◌, ◌==◌, nat_le, List, [], ◌∷◌, ◌++◌, length, map, Option, Some, None, option_map, option_and_then, is_some, is_none, unwrap_or, ok_or, Result, Ok, Err, codes, bytes_eq, string_bytes, String, if◌then◌else◌}
use Rattle.std.specs.Bool.{then_some}
use Rattle.std.specs.Option.{option_or}
use Rattle.std.specs.List.{filter_map}
use Rattle.std.specs.declared.alloc.Global.{Global}
use Rattle.plain_text.specs.Numbers.{count_of, is_name, kept_if}
use Rattle.command_words.specs.declared.command.Verb.{Verb}
use Rattle.command_words.specs.declared.command.Verb.TheVariants.{Run, Check, Plan, Bridges, Trial}
use Rattle.command_words.specs.declared.command.Setting.{Setting}
use Rattle.command_words.specs.declared.command.Setting.TheVariants.{M, Block, Workers}
use Rattle.command_words.specs.declared.settings.Settings.{Settings}
use Rattle.command_words.specs.declared.refusal.WordFault.{WordFault}
use Rattle.command_words.specs.declared.refusal.WordFault.TheVariants.{UnknownCommand, UnknownOption, GivenTwice, NoValue, BadNumber, BadName, InputTwice, OneTooMany}
use Rattle.command_words.specs.Commands.{Files, Command, run, check, plan, bridges, trial, verb_of, operand_count, setting_of, option_of, greatest_of, default_of, greatest_seed}
use Rattle.command_words.specs.Refusals.{Refusal, no_command, at, too_few}

-- what stands after the command: an operand, or an option with the word after it
pub data Item : Type 0 where
  operand : List ℕ → Item
  option : List ℕ → Option (List ℕ) → Item

-- whether a word begins with `--`
abbrev pub is_option : List ℕ → Bool
is_option (a ∷ b ∷ bs) = (a == 45) && (b == 45)
is_option bs = false

-- the items that words are; the word after an option is its value, whatever it is
abbrev pub items_of : List (List ℕ) → List Item
items_of [] = []
items_of (w ∷ []) = (if is_option w then option w None else operand w) ∷ []
items_of (w ∷ v ∷ ws) = if is_option w then option w (Some v) ∷ items_of ws else operand w ∷ items_of (v ∷ ws)

-- the number that 1 to 20 digits write, where it is in the range
abbrev pub number_in : ℕ → ℕ → List ℕ → Option ℕ
number_in least most word = option_and_then (kept_if (λ n. nat_le least n && nat_le n most)) (if nat_le (length word) 20 then count_of word else None)

-- the value that a word gives to a setting
abbrev pub value_in : Setting → List ℕ → Option ℕ
value_in setting word = number_in 1 (greatest_of setting) word

-- the seed that a word gives
abbrev pub seed_in : List ℕ → Option ℕ
seed_in word = number_in 0 greatest_seed word

-- the operand that an item is
abbrev pub operand_in : Item → Option (List ℕ)
operand_in (operand word) = Some word
operand_in (option word value) = None

-- the value that an item gives to a setting
abbrev pub value_by : Setting → Item → Option ℕ
value_by setting (operand word) = None
value_by setting (option word value) = if bytes_eq word (option_of setting) then option_and_then (value_in setting) value else None

-- the operands among items
abbrev pub operands_of : List Item → List (List ℕ)
operands_of items = filter_map operand_in items

-- the value that items give to a setting
abbrev pub value_of : Setting → List Item → Option ℕ
value_of setting [] = None
value_of setting (item ∷ items) = option_or (value_by setting item) (value_of setting items)

-- what is wrong with an operand after these
abbrev pub operand_fault : Verb → List (List ℕ) → List ℕ → Option WordFault
operand_fault Run (script ∷ []) word = then_some (bytes_eq script (codes "-") && bytes_eq word (codes "-")) InputTwice
operand_fault Bridges (input ∷ []) word = then_some (not (is_name word)) BadName
operand_fault Trial [] word = then_some (is_none (seed_in word)) BadNumber
operand_fault verb before word = then_some (nat_le (operand_count verb) (length before)) OneTooMany

-- what is wrong with the value of an option
abbrev pub value_fault : Setting → List ℕ → Option (List ℕ) → Option Refusal
value_fault setting word None = Some (at word NoValue)
value_fault setting word (Some value) = then_some (is_none (value_in setting value)) (at value BadNumber)

-- what is wrong with an option after these items
abbrev pub option_fault : Option Setting → List Item → List ℕ → Option (List ℕ) → Option Refusal
option_fault None before word value = Some (at word UnknownOption)
option_fault (Some setting) before word value = if is_some (value_of setting before) then Some (at word GivenTwice) else value_fault setting word value

-- what is wrong with an item after these
abbrev pub fault_of : Verb → List Item → Item → Option Refusal
fault_of verb before (operand word) = option_map (at word) (operand_fault verb (operands_of before) word)
fault_of verb before (option word value) = option_fault (setting_of verb word) before word value

-- what is wrong with the first item at fault
abbrev pub first_fault : Verb → List Item → List Item → Option Refusal
first_fault verb before [] = None
first_fault verb before (item ∷ items) = option_or (fault_of verb before item) (first_fault verb (before ++ item ∷ []) items)

-- the settings that items give, and the defaults where they give none
abbrev pub settings_given : List Item → Settings
settings_given items = record {
  m = unwrap_or (value_of M items) (default_of M);
  block = unwrap_or (value_of Block items) (default_of Block);
  workers = unwrap_or (value_of Workers items) (default_of Workers);
}

-- the command, where no operand is missing
abbrev pub command_with : Verb → List (List ℕ) → Settings → Option Command
command_with Run (script ∷ input ∷ []) settings = Some (run (record { script = script; input = input }) settings)
command_with Check (script ∷ []) settings = Some (check script)
command_with Plan (script ∷ []) settings = Some (plan script)
command_with Bridges (input ∷ name ∷ []) settings = Some (bridges input name settings.m)
command_with Trial (seed ∷ []) settings = option_map (λ n. trial n settings) (seed_in seed)
command_with verb operands settings = None

-- the refusal, or else the command, where no operand is missing
abbrev pub refused_or : Option Refusal → Option Command → Result Command Refusal
refused_or (Some refusal) command = Err refusal
refused_or None command = ok_or command too_few

-- what the words after a command's name say
abbrev pub named_command : Option Verb → List ℕ → List Item → Result Command Refusal
named_command None word items = Err (at word UnknownCommand)
named_command (Some verb) word items = refused_or (first_fault verb [] items) (command_with verb (operands_of items) (settings_given items))

-- what the words say
abbrev pub command_line : List (List ℕ) → Result Command Refusal
command_line [] = Err no_command
command_line (word ∷ words) = named_command (verb_of word) word (items_of words)

-- the words as texts
abbrev pub texts_of : List (String Global) → List (List ℕ)
texts_of words = map string_bytes words

-- the files of a run, where the words ask for one
abbrev pub files_in : Result Command Refusal → Option Files
files_in (Ok (run files settings)) = Some files
files_in answer = None

abbrev pub run_files : List (List ℕ) → Option Files
run_files words = files_in (command_line words)

-- the script of any command that reads one
abbrev pub script_in : Result Command Refusal → Option (List ℕ)
script_in (Ok (run files settings)) = Some files.script
script_in (Ok (check script)) = Some script
script_in (Ok (plan script)) = Some script
script_in answer = None

abbrev pub script_file : List (List ℕ) → Option (List ℕ)
script_file words = script_in (command_line words)
