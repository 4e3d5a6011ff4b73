-- Why words are refused, and the line that tells of it.
use Rattle.std.specs.Prelude.{ℕ, List, ◌++◌, codes}
use Rattle.command_words.specs.declared.refusal.WordFault.{WordFault}
use Rattle.command_words.specs.declared.refusal.WordFault.TheVariants.{UnknownCommand, UnknownOption, GivenTwice, NoValue, BadNumber, BadName, InputTwice, OneTooMany}

-- no words, a word at fault, or too few words
pub data Refusal : Type 0 where
  no_command : Refusal
  at : List ℕ → WordFault → Refusal
  too_few : Refusal

abbrev pub text_of : WordFault → List ℕ
text_of UnknownCommand = codes "unknown command"
text_of UnknownOption = codes "unknown option"
text_of GivenTwice = codes "given twice"
text_of NoValue = codes "no value"
text_of BadNumber = codes "bad number"
text_of BadName = codes "bad name"
text_of InputTwice = codes "standard input twice"
text_of OneTooMany = codes "one word too many"

abbrev pub word_line : List ℕ → List ℕ → List ℕ
word_line word text = codes "words: " ++ word ++ codes ": " ++ text ++ codes "\n"

abbrev pub refusal_line : Refusal → List ℕ
refusal_line no_command = codes "words: no command\n"
refusal_line (at word fault) = word_line word (text_of fault)
refusal_line too_few = codes "words: too few words\n"
