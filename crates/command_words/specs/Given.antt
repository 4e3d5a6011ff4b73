-- What items gave, as the reader keeps it. No public clause cites this.
use Rattle.std.specs.Prelude.{◌≡◌, ℕ, List, [], ◌∷◌, ◌++◌, Option, Some, None}
use Rattle.command_words.specs.declared.command.Verb.{Verb}
use Rattle.command_words.specs.declared.command.Setting.{Setting}
use Rattle.command_words.specs.declared.command.Setting.TheVariants.{M, Block, Workers}
use Rattle.command_words.specs.declared.given.Given.{Given}
use Rattle.command_words.specs.Words.{Item, operands_of, value_of, fault_of, first_fault}
use Rattle.command_words.specs.OperandTexts.{operand_texts}

-- the value that was given to a setting
abbrev pub value_kept : Setting → Given → Option ℕ
value_kept M given = given.m
value_kept Block given = given.block
value_kept Workers given = given.workers

-- with this value of the setting
abbrev pub kept_with : Setting → ℕ → Given → Given
kept_with M n given = record given { m = Some n }
kept_with Block n given = record given { block = Some n }
kept_with Workers n given = record given { workers = Some n }

-- these items gave this
pub record IsGiven (items : List Item) (given : Given) : Type 0 where
  pub operands : operands_of items ≡ operand_texts given.operands
  pub values : (setting : Setting) → value_of setting items ≡ value_kept setting given

-- an item after these isn't at fault, and they gave this with it
pub record IsGivenNext (verb : Verb) (before : List Item) (item : Item) (given : Given) : Type 0 where
  pub faultless : fault_of verb before item ≡ None
  pub given_now : IsGiven (before ++ item ∷ []) given

-- none of these items is at fault, and they gave this
pub record IsGivenBy (verb : Verb) (items : List Item) (given : Given) : Type 0 where
  pub faultless : first_fault verb [] items ≡ None
  pub given_now : IsGiven items given
