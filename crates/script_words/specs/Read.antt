-- Reading and judging that go on until the first fault.
use Rattle.std.specs.Prelude.{◌≡◌, ℕ, Result, Ok, Err, Option, Some, None, Bool, true, false}
use Rattle.script_words.specs.declared.fault.ScriptWhat.{ScriptWhat}
use Rattle.script_words.specs.declared.fault.Spot.{Spot}
use Rattle.script_words.specs.declared.fault.LineFault.{LineFault}
use Rattle.script_words.specs.declared.fault.LineFault.TheVariants as fault

-- what is read of a line, or its fault
abbrev pub Read : Type 0 → Type 0
Read X = Result X Spot

infixl 10 ◌>>=◌
abbrev pub ◌>>=◌ : {A B : Type 0} → Read A → (A → Read B) → Read B
(Ok x) >>= f = f x
(Err e) >>= f = Err e

abbrev pub spot : ℕ → ScriptWhat → Spot
spot column what = record { column = column; what = what }

-- the value, or this fault where there is none
abbrev pub or_fault : {X : Type 0} → Option X → ℕ → ScriptWhat → Read X
or_fault (Some x) column what = Ok x
or_fault None column what = Err (spot column what)

-- goes on where the test holds
abbrev pub unless : Bool → ℕ → ScriptWhat → Read (Unit {0})
unless true column what = Ok tt
unless false column what = Err (spot column what)

-- a fault that a call answered is the one that reading gives, want of memory aside
abbrev pub Fails : {Y : Type 0} → LineFault → Read Y → Type 0
Fails fault.Memory read = Unit {0}
Fails (fault.Spot s) read = read ≡ Err s

-- what a call answered, seen by view, is what reading gives, want of memory aside
abbrev pub Gives : {X Y : Type 0} → (X → Y) → Result X LineFault → Read Y → Type 0
Gives view (Ok x) read = read ≡ Ok (view x)
Gives view (Err e) read = Fails e read
