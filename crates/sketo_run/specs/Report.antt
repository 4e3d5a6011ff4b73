-- Lines on error output.
use Rattle.std.specs.Prelude.{ℕ, ◌⊎◌, List, [], ◌++◌, Option, codes, decimal}
use Rattle.data_text.specs.declared.data_fault.DataFault.{DataFault}
use Rattle.data_text.specs.declared.data_fault.DataFault.TheVariants.{BadWord, BadNumber, LongWord, LongGap, BadKind, TooMany, Short, Shape, Duplicate, TooManySections, Read, Memory}
use Rattle.script_lang.specs.Syntax.{Statement}
use Rattle.script_words.specs.declared.fault.ScriptWhat.{ScriptWhat}
use Rattle.script_words.specs.declared.fault.ScriptWhat.TheVariants as what
use Rattle.script_lang.specs.declared.fault.ScriptFault.{ScriptFault}
use Rattle.script_lang.specs.declared.fault.ScriptFault.TheVariants as script_fault
use Rattle.script_run.specs.declared.fitting.FitFault.{FitFault}
use Rattle.script_run.specs.declared.fitting.FitFault.TheVariants.{NotThere, WrongKind, NotLike}
use Rattle.sketo_run.specs.Inputs.{input_name, like_name}
use Rattle.sketo_run.specs.Answer.{DataRefusal, faulty, unfit}
use Rattle.outside.specs.Outside.{Rose, Appends, AppendsFront}

-- a read of this file failed
abbrev pub read_failed : List ℕ → List ℕ
read_failed file = codes "read: " ++ file ++ codes ": failed\n"

-- a write to output failed
abbrev pub write_failed : List ℕ
write_failed = codes "write: failed\n"

-- memory was refused
abbrev pub no_memory : List ℕ
no_memory = codes "memory: none\n"

-- a form that isn't built yet
abbrev pub not_built : List ℕ
not_built = codes "stage: not built\n"

-- what is wrong with a script
abbrev pub what_text : ScriptWhat → List ℕ
what_text what.BadLine = codes "bad line"
what_text what.TooDeep = codes "too deep"
what_text what.TooManyPrints = codes "too many prints"
what_text what.UnknownName = codes "unknown name"
what_text what.Rebound = codes "name used twice"
what_text what.WrongKind = codes "wrong kind"
what_text what.UnknownOp = codes "unknown operator"
what_text what.WrongArity = codes "wrong arity"
what_text what.TooWide = codes "too wide"
what_text what.NoUnit = codes "no unit"
what_text what.NotAbiding = codes "not abiding"
what_text what.ShapeDiffers = codes "shape differs"
what_text what.TupleTooLong = codes "tuple too long"

abbrev pub place_line : List ℕ → List ℕ → List ℕ → List ℕ → List ℕ
place_line file line column text = codes "script: " ++ file ++ codes ": line " ++ line ++ codes ", column " ++ column ++ codes ": " ++ text ++ codes "\n"

abbrev pub long_line : List ℕ → List ℕ
long_line file = codes "script: " ++ file ++ codes ": too long\n"

-- a script is refused; want of memory has a line of its own
abbrev pub script_line : List ℕ → ScriptFault → List ℕ
script_line file script_fault.Long = long_line file
script_line file (script_fault.At line column what) = place_line file (decimal line) (decimal column) (what_text what)
script_line file script_fault.Memory = no_memory

-- what is wrong at a byte of data
abbrev pub fault_text : DataFault → List ℕ
fault_text (BadWord at) = codes "bad word"
fault_text (BadNumber at) = codes "bad number"
fault_text (LongWord at) = codes "long word"
fault_text (LongGap at) = codes "long gap"
fault_text (BadKind at) = codes "unknown kind"
fault_text (TooMany at) = codes "too many"
fault_text (Short at) = codes "short"
fault_text (Shape at) = codes "wrong shape"
fault_text (Duplicate at) = codes "name used twice"
fault_text (TooManySections at) = codes "too many sections"
fault_text Read = []
fault_text Memory = []

-- that byte, counted from 0
abbrev pub fault_byte : DataFault → ℕ
fault_byte (BadWord at) = at
fault_byte (BadNumber at) = at
fault_byte (LongWord at) = at
fault_byte (LongGap at) = at
fault_byte (BadKind at) = at
fault_byte (TooMany at) = at
fault_byte (Short at) = at
fault_byte (Shape at) = at
fault_byte (Duplicate at) = at
fault_byte (TooManySections at) = at
fault_byte Read = 0
fault_byte Memory = 0

abbrev pub byte_line : List ℕ → List ℕ → List ℕ → List ℕ
byte_line file byte text = codes "data: " ++ file ++ codes ": byte " ++ byte ++ codes ": " ++ text ++ codes "\n"

-- data is at fault at a byte
abbrev pub fault_line : List ℕ → DataFault → List ℕ
fault_line file fault = byte_line file (decimal (fault_byte fault)) (fault_text fault)

abbrev pub name_line : List ℕ → List ℕ → List ℕ → List ℕ
name_line file name text = codes "data: " ++ file ++ codes ": " ++ name ++ codes ": " ++ text ++ codes "\n"

abbrev pub unlike_line : List ℕ → List ℕ → List ℕ → List ℕ
unlike_line file name other = codes "data: " ++ (file ++ (codes ": " ++ (name ++ (codes ": not like " ++ (other ++ codes "\n")))))

-- data doesn't fit a script of these lines
abbrev pub misfit_line : List ℕ → List Statement → FitFault → List ℕ
misfit_line file lines (NotThere i) = name_line file (input_name lines i) (codes "not there")
misfit_line file lines (WrongKind i) = name_line file (input_name lines i) (codes "wrong kind")
misfit_line file lines (NotLike i) = unlike_line file (input_name lines i) (like_name lines i)

-- data is refused
abbrev pub data_line : List ℕ → List Statement → DataRefusal → List ℕ
data_line file lines (faulty fault) = fault_line file fault
data_line file lines (unfit fault) = misfit_line file lines fault

-- the line went out, or a front of it where the sink failed in this call
abbrev pub IsReported : List ℕ → Option (List ℕ) → Option (List ℕ) → ℕ → ℕ → Type 0
IsReported line before after faults faults' = Appends before after line ⊎ (AppendsFront before after line × Rose faults faults')
