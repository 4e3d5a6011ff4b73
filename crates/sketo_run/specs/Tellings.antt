-- What the words ask to be told of a script alone.
use Rattle.std.specs.Prelude.{ℕ, List, Option, Some, None, Result, Ok}
use Rattle.command_words.specs.Commands.{Command, check, plan}
use Rattle.command_words.specs.Refusals.{Refusal}
use Rattle.command_words.specs.Words.{command_line}
use Rattle.sketo_run.specs.declared.telling.Told.{Told}
use Rattle.sketo_run.specs.declared.telling.Told.TheVariants as told

-- a script, and what a command tells of it alone
pub record Telling : Type 0 where
  pub what : Told
  pub script : List ℕ

-- that, where the words ask for it
abbrev pub telling_in : Result Command Refusal → Option Telling
telling_in (Ok (check script)) = Some (record { what = told.Types; script = script })
telling_in (Ok (plan script)) = Some (record { what = told.Plan; script = script })
telling_in answer = None

abbrev pub telling : List (List ℕ) → Option Telling
telling words = telling_in (command_line words)
