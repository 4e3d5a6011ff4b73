-- A script: its lines with what each name stands for, or its first fault.
use Rattle.std.specs.Prelude.{◌≡◌, ℕ, List, [], ◌∷◌, ◌++◌, length, nat_lt, Result, Ok, Err, if◌then◌else◌}
use Rattle.script_words.specs.Lines.{Token, Source, sources_of}
use Rattle.script_words.specs.Read.{Read, ◌>>=◌}
use Rattle.script_words.specs.Reading.{end_of}
use Rattle.script_lang.specs.declared.fault.ScriptFault.{ScriptFault}
use Rattle.script_lang.specs.declared.fault.ScriptFault.TheVariants as fault
use Rattle.script_lang.specs.Syntax.{Statement}
use Rattle.script_lang.specs.Grammar.{form_at}
use Rattle.script_lang.specs.Steps.{line_of}

-- what these words mean after earlier lines
unfoldable pub line_at : List Statement → List Token → Read Statement
line_at lines ts = do
  f ← form_at (end_of ts) ts
  line_of lines f

-- a fault of the line of this number
abbrev pub of_line : {X : Type 0} → ℕ → Read X → Result X ScriptFault
of_line n (Ok x) = Ok x
of_line n (Err s) = Err (fault.At n s.column s.what)

abbrev pub and_then : {A B : Type 0} → Result A ScriptFault → (A → Result B ScriptFault) → Result B ScriptFault
and_then (Ok x) f = f x
and_then (Err e) f = Err e

-- line after line
unfoldable pub lines_at : List Statement → List Source → Result (List Statement) ScriptFault
lines_at lines [] = Ok lines
lines_at lines (s ∷ ss) = and_then (of_line s.number (line_at lines s.tokens)) (λ l. lines_at (lines ++ l ∷ []) ss)

-- the most bytes that a script may have
abbrev pub max_script : ℕ
max_script = 65536

-- the script that these bytes are
unfoldable pub script : List ℕ → Result (List Statement) ScriptFault
script bytes = if nat_lt max_script (length bytes) then Err fault.Long else lines_at [] (sources_of bytes)

-- a fault that a call answered is the one that the definition gives, want of memory aside
abbrev pub FailsIn : {Y : Type 0} → ScriptFault → Result Y ScriptFault → Type 0
FailsIn fault.Memory read = Unit {0}
FailsIn e read = read ≡ Err e

-- what a call answered, seen by view, is what the definition gives, want of memory aside
abbrev pub GivesIn : {X Y : Type 0} → (X → Y) → Result X ScriptFault → Result Y ScriptFault → Type 0
GivesIn view (Ok x) read = read ≡ Ok (view x)
GivesIn view (Err e) read = FailsIn e read
