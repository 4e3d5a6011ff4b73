-- Why a run of data has no answer, by how it stops. No public clause cites this file.
use Rattle.std.specs.Prelude.{◌≡◌, ℕ, List, Err, map, ⊤}
use Rattle.data_text.specs.Data.{Section}
use Rattle.script_lang.specs.Syntax.{Statement}
use Rattle.script_lang.specs.Views.{statement_of}
use Rattle.script_lang.specs.Script.{script}
use Rattle.script_run.specs.Fit.{fit_of}
use Rattle.sketo_run.specs.declared.stop.Stop.{Stop}
use Rattle.sketo_run.specs.declared.stop.Stop.TheVariants as stop
use Rattle.sketo_run.specs.Built.{IsBuilt, IsNotBuilt}
use Rattle.sketo_run.specs.Answer.{faulty, unfit, IsRefused}

-- a script's bytes stop a run only where they can't be read, or for want of memory
abbrev pub IsReadStop : Stop → Type 0
IsReadStop stop.ScriptUnread = ⊤
IsReadStop stop.NoMemory = ⊤
IsReadStop stop = ⊥

-- a script stops a run where it can't be read or is refused, or for want of memory
abbrev pub IsRefusalOf : Stop → List ℕ → Type 0
IsRefusalOf stop.ScriptUnread bytes = ⊤
IsRefusalOf stop.NoMemory bytes = ⊤
IsRefusalOf (stop.BadScript fault) bytes = script bytes ≡ Err fault
IsRefusalOf stop bytes = ⊥

-- what is known of a script by how its run stops: before the data is read, or after it
abbrev pub IsScriptOf : Stop → List ℕ → Type 0
IsScriptOf stop.ScriptUnread bytes = ⊤
IsScriptOf stop.NoMemory bytes = ⊤
IsScriptOf (stop.BadScript fault) bytes = script bytes ≡ Err fault
IsScriptOf stop.NotBuilt bytes = IsNotBuilt bytes
IsScriptOf stop bytes = IsBuilt bytes

-- a script stops a check
abbrev pub IsOfScript : Stop → Type 0
IsOfScript stop.ScriptUnread = ⊤
IsOfScript stop.NoMemory = ⊤
IsOfScript (stop.BadScript fault) = ⊤
IsOfScript stop = ⊥

-- a script stops a run before the data is read
abbrev pub IsEarly : Stop → Type 0
IsEarly stop.ScriptUnread = ⊤
IsEarly stop.NoMemory = ⊤
IsEarly (stop.BadScript fault) = ⊤
IsEarly stop.NotBuilt = ⊤
IsEarly stop = ⊥

-- sections that were read stop a run of a script of these lines only where they don't fit, or for want of memory
abbrev pub IsUnfit : List Statement → List Section → Stop → Type 0
IsUnfit lines sections stop.NoMemory = ⊤
IsUnfit lines sections (stop.Unfit fault s) = (fit_of lines sections ≡ Err fault) × (map statement_of s ≡ lines)
IsUnfit lines sections stop = ⊥

-- data that is refused
abbrev pub IsCauseOf : Stop → List ℕ → List ℕ → Type 0
IsCauseOf (stop.BadData fault) program input = (lines : List Statement) × IsRefused program input lines (faulty fault)
IsCauseOf (stop.Unfit fault s) program input = IsRefused program input (map statement_of s) (unfit fault)
IsCauseOf stop program input = ⊤
