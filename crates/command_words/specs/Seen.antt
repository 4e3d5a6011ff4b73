-- What the code's words are as texts.
use Rattle.std.specs.Prelude.{ℕ, option_map, Some, None}
use Rattle.command_words.specs.declared.item.Item as items
use Rattle.command_words.specs.declared.item.Item.TheVariants as is
use Rattle.command_words.specs.declared.refusal.Refusal as refusals
use Rattle.command_words.specs.declared.refusal.Refusal.TheVariants as says
use Rattle.command_words.specs.declared.command.Command as commands
use Rattle.command_words.specs.declared.command.Command.TheVariants as asks
use Rattle.command_words.specs.Commands.{Command, run, check, plan, bridges, trial}
use Rattle.command_words.specs.Refusals.{Refusal, no_command, at, too_few}
use Rattle.command_words.specs.Words.{Item, operand, option}

abbrev pub item_of : items.Item → Item
item_of (is.Operand word) = operand word.now
item_of (is.Dashed word value) = option word.now (option_map (λ v. v.now) value)

-- how many words an item is
abbrev pub word_count : items.Item → ℕ
word_count (is.Operand word) = 1
word_count (is.Dashed word None) = 1
word_count (is.Dashed word (Some value)) = 2

abbrev pub refusal_of : refusals.Refusal → Refusal
refusal_of says.NoCommand = no_command
refusal_of (says.At word fault) = at word.now fault
refusal_of says.TooFewWords = too_few

abbrev pub command_of : commands.Command → Command
command_of (asks.Run files settings) = run (record { script = files.script.now; input = files.input.now }) settings
command_of (asks.Check script) = check script.now
command_of (asks.Plan script) = plan script.now
command_of (asks.Bridges input name m) = bridges input.now name.now m
command_of (asks.Trial seed settings) = trial seed settings
