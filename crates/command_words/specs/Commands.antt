-- The commands: their names, operands, options and parts.
use Rattle.std.specs.Prelude.{ℕ, ◌≤◌, List, [], ◌∷◌, Option, find, codes, bytes_eq}
use Rattle.command_words.specs.declared.command.Verb.{Verb}
use Rattle.command_words.specs.declared.command.Verb.TheVariants.{Run, Check, Plan, Bridges, Trial}
use Rattle.command_words.specs.declared.command.Setting.{Setting}
use Rattle.command_words.specs.declared.command.Setting.TheVariants.{M, Block, Workers}
use Rattle.command_words.specs.declared.settings.Settings.{Settings}

-- the two files of a run
pub record Files : Type 0 where
  pub script : List ℕ
  pub input : List ℕ

-- a command with its operands and settings
pub data Command : Type 0 where
  run : Files → Settings → Command
  check : (script : List ℕ) → Command
  plan : (script : List ℕ) → Command
  bridges : (input name : List ℕ) (m : ℕ) → Command
  trial : (seed : ℕ) → Settings → Command

abbrev pub name_of : Verb → List ℕ
name_of Run = codes "run"
name_of Check = codes "check"
name_of Plan = codes "plan"
name_of Bridges = codes "bridges"
name_of Trial = codes "trial"

-- how many operands a command has
abbrev pub operand_count : Verb → ℕ
operand_count Run = 2
operand_count Check = 1
operand_count Plan = 1
operand_count Bridges = 2
operand_count Trial = 1

-- what the options of a command set
abbrev pub settings_of : Verb → List Setting
settings_of Run = M ∷ Block ∷ Workers ∷ []
settings_of Check = []
settings_of Plan = []
settings_of Bridges = M ∷ []
settings_of Trial = M ∷ Block ∷ Workers ∷ []

-- the option of a setting
abbrev pub option_of : Setting → List ℕ
option_of M = codes "--m"
option_of Block = codes "--block"
option_of Workers = codes "--workers"

-- the greatest value that may be given; the least is 1
abbrev pub greatest_of : Setting → ℕ
greatest_of M = 4294967295
greatest_of Block = 4294967295
greatest_of Workers = 64

-- the value where none is given
abbrev pub default_of : Setting → ℕ
default_of M = 1024
default_of Block = 4096
default_of Workers = 2

-- the greatest seed of a trial; the least is 0
abbrev pub greatest_seed : ℕ
greatest_seed = 18446744073709551615

-- a value that may be given to a setting
abbrev pub IsInRange : Setting → ℕ → Type 0
IsInRange setting n = (1 ≤ n) × (n ≤ greatest_of setting)

pub record AreInRange (settings : Settings) : Type 0 where
  pub m : IsInRange M settings.m
  pub block : IsInRange Block settings.block
  pub workers : IsInRange Workers settings.workers

-- each setting of a command is in its range
abbrev pub HasRange : Command → Type 0
HasRange (run files settings) = AreInRange settings
HasRange (check script) = Unit {0}
HasRange (plan script) = Unit {0}
HasRange (bridges input name m) = IsInRange M m
HasRange (trial seed settings) = AreInRange settings

-- the command of this name
abbrev pub verb_of : List ℕ → Option Verb
verb_of word = find (λ verb. bytes_eq word (name_of verb)) (Run ∷ Check ∷ Plan ∷ Bridges ∷ Trial ∷ [])

-- what a command lets this option set
abbrev pub setting_of : Verb → List ℕ → Option Setting
setting_of verb word = find (λ setting. bytes_eq word (option_of setting)) (settings_of verb)
