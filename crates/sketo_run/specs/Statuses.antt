-- The numbers of the statuses.
use Rattle.std.specs.Prelude.{ℕ}
use Rattle.sketo_run.specs.declared.status.Status.{Status}
use Rattle.sketo_run.specs.declared.status.Status.TheVariants.{Answered, WordsRefused, ScriptRefused, DataRefused, ReadFailed, WriteFailed, NoMemory, NotBuilt}

abbrev pub code_of : Status → ℕ
code_of Answered = 0
code_of WordsRefused = 2
code_of ScriptRefused = 3
code_of DataRefused = 4
code_of ReadFailed = 5
code_of WriteFailed = 6
code_of NoMemory = 7
code_of NotBuilt = 8
