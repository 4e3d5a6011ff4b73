-- Which files a command has to do with. The others stay as they were.
use Rattle.std.specs.Prelude.{◌≡◌, ℕ, ◌⊎◌, Bool, List, Option, IsTrue, IsSome, IfSome}
use Rattle.sketo_run.specs.Built.{IsBuilt}
use Rattle.command_words.specs.Commands.{Files}

-- a shelf that tells which name is started, whenever one is
abbrev pub TellsStarted : {F : Type 0} → (F → Bool) → (F → Option (List ℕ)) → Type 0
TellsStarted {F} ready started = (shelf : F) → IsTrue (ready shelf) → IsSome (started shelf)

-- a run reads this file: it is the script, or the data after a script over lists
abbrev pub IsReadBy : Files → (List ℕ → Option (List ℕ)) → List ℕ → Type 0
IsReadBy files content file = (file ≡ files.script) ⊎ ((file ≡ files.input) × IfSome (content files.script) IsBuilt)

-- each told file that a run doesn't read has the count of faults that it had
abbrev pub OthersUnread : Files → (List ℕ → Option (List ℕ)) → (List ℕ → ℕ) → (List ℕ → ℕ) → Type 0
OthersUnread files content faults faults' = (file : List ℕ) → IsSome (content file) → (IsReadBy files content file → ⊥) → faults' file ≡ faults file
