-- How a run may end.
use Rattle.std.specs.Prelude.{◌≡◌, ◌≢◌, ℕ, ◌⊎◌, List, Option, Ok, Err, IfSome, IsSomeAnd}
use Rattle.outside.specs.Outside.{Rose, Appends, AppendsFront}
use Rattle.data_text.specs.declared.value.Named.{Named}
use Rattle.script_lang.specs.declared.fault.ScriptFault.{ScriptFault}
use Rattle.script_lang.specs.Syntax.{Statement}
use Rattle.script_lang.specs.Script.{script}
use Rattle.script_lang.specs.TypesText.{types_text}
use Rattle.fuse_rewrite.specs.PlanText.{plan_text}
use Rattle.sketo_run.specs.declared.telling.Told.{Told}
use Rattle.sketo_run.specs.declared.telling.Told.TheVariants as told
use Rattle.sketo_run.specs.Built.{IsBuilt}
use Rattle.sketo_run.specs.ValuesText.{values_text}
use Rattle.command_words.specs.Commands.{Files}
use Rattle.sketo_run.specs.Report.{IsReported, script_line, data_line}
use Rattle.sketo_run.specs.Answer.{IsAnswer, IsRefused, DataRefusal}

-- P of the contents of both files, where both are told
abbrev pub WhereTold : (List ℕ → Option (List ℕ)) → Files → (List ℕ → List ℕ → Type 0) → Type 0
WhereTold content files P = IfSome (content files.script) (λ script. IfSome (content files.input) (λ input. P script input))

-- P of the contents of both files, which are both told
abbrev pub AreTold : (List ℕ → Option (List ℕ)) → Files → (List ℕ → List ℕ → Type 0) → Type 0
AreTold content files P = IsSomeAnd (content files.script) (λ script. IsSomeAnd (content files.input) (λ input. P script input))

-- of a command whose script is at fault: the script is refused, a read failed, or memory was refused
abbrev pub IsRefusedStatus : ℕ → Type 0
IsRefusedStatus n = (n ≡ 3) ⊎ ((n ≡ 5) ⊎ (n ≡ 7))

-- of a command that tells of a script: answered, the script is refused, a read failed, a write failed, or memory was refused
abbrev pub IsTellingStatus : ℕ → Type 0
IsTellingStatus n = (n ≡ 0) ⊎ ((n ≡ 3) ⊎ ((n ≡ 5) ⊎ ((n ≡ 6) ⊎ (n ≡ 7))))

-- of a run whose script has a form that isn't built: that is told, a read failed, or memory was refused
abbrev pub IsUnbuiltStatus : ℕ → Type 0
IsUnbuiltStatus n = (n ≡ 8) ⊎ ((n ≡ 5) ⊎ (n ≡ 7))

-- of a run: those, and that the data is refused, or a form isn't built
abbrev pub IsRunStatus : ℕ → Type 0
IsRunStatus n = IsTellingStatus n ⊎ ((n ≡ 4) ⊎ (n ≡ 8))

-- those, and that the words are refused
abbrev pub IsStatus : ℕ → Type 0
IsStatus n = (n ≡ 2) ⊎ IsRunStatus n

-- the text of the answer went out
abbrev pub IsPrinted : Option (List ℕ) → Option (List ℕ) → List ℕ → List ℕ → Type 0
IsPrinted before after script input = (answer : List Named) × IsAnswer script input answer × Appends before after (values_text answer)

-- a front of the text of the answer went out
abbrev pub IsPrintedInPart : Option (List ℕ) → Option (List ℕ) → List ℕ → List ℕ → Type 0
IsPrintedInPart before after script input = (answer : List Named) × IsAnswer script input answer × AppendsFront before after (values_text answer)

-- what is told of a script: the types of its names, or its plan
abbrev pub told_text : Told → List Statement → List ℕ
told_text told.Types lines = types_text lines
told_text told.Plan lines = plan_text lines

-- what is told of a script went out
abbrev pub IsTold : Told → Option (List ℕ) → Option (List ℕ) → List ℕ → Type 0
IsTold what before after bytes = (lines : List Statement) × (script bytes ≡ Ok lines) × Appends before after (told_text what lines)

-- a front of it went out
abbrev pub IsToldInPart : Told → Option (List ℕ) → Option (List ℕ) → List ℕ → Type 0
IsToldInPart what before after bytes = (lines : List Statement) × (script bytes ≡ Ok lines) × AppendsFront before after (told_text what lines)

-- the script is refused, and the line of this file tells why
abbrev pub IsScriptRefused : List ℕ → Option (List ℕ) → Option (List ℕ) → ℕ → ℕ → List ℕ → Type 0
IsScriptRefused file before after faults faults' bytes =
    (fault : ScriptFault) × (script bytes ≡ Err fault) × IsReported (script_line file fault) before after faults faults'

-- the data is refused, and the line of this file tells why
abbrev pub IsDataRefused : List ℕ → Option (List ℕ) → Option (List ℕ) → ℕ → ℕ → List ℕ → List ℕ → Type 0
IsDataRefused file before after faults faults' script input =
    (lines : List Statement) × (refusal : DataRefusal) × IsRefused script input lines refusal × IsReported (data_line file lines refusal) before after faults faults'

-- A file of the run couldn't be read: its count of faults rose. It is the data only after a script over
-- lists.
pub record IsUnread (content : List ℕ → Option (List ℕ)) (files : Files) (faults faults' : List ℕ → ℕ) (file : List ℕ) : Type 0 where
  pub named : (file ≡ files.script) ⊎ (file ≡ files.input)
  pub rose : Rose (faults file) (faults' file)
  pub after_script : files.script ≢ files.input → file ≡ files.input → IfSome (content files.script) IsBuilt

-- Both files are told and have an answer, and no count of faults rose: of the files and of output.
pub record IsFaultless (content : List ℕ → Option (List ℕ)) (files : Files) (faults faults' : List ℕ → ℕ) (out out' : ℕ) : Type 0 where
  pub has_answer : AreTold content files (λ script input. (answer : List Named) × IsAnswer script input answer)
  pub script_read : Rose (faults files.script) (faults' files.script) → ⊥
  pub input_read : Rose (faults files.input) (faults' files.input) → ⊥
  pub written : Rose out out' → ⊥

-- The script is told and accepted, and no count of faults rose: of the script and of output.
pub record IsTellingFaultless (content : List ℕ → Option (List ℕ)) (file : List ℕ) (faults faults' : List ℕ → ℕ) (out out' : ℕ) : Type 0 where
  pub accepted : IsSomeAnd (content file) (λ bytes. (lines : List Statement) × (script bytes ≡ Ok lines))
  pub script_read : Rose (faults file) (faults' file) → ⊥
  pub written : Rose out out' → ⊥
