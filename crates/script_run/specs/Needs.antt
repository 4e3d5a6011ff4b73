-- Which values are still needed, and the tables that hold them. No public clause cites this file.
use Rattle.std.specs.Prelude.{◌≡◌, ℕ, Bool, true, ◌||◌, ◌==◌, List, [], ◌∷◌, Option, Some, None, slice_get, slice_set, if◌then◌else◌}
use Rattle.std.specs.List.{list_any}
use Rattle.data_text.specs.Data.{Section}
use Rattle.script_lang.specs.Syntax.{Statement}
use Rattle.script_lang.specs.Steps.{prints_line}
use Rattle.fuse_rewrite.specs.Steps.{Kept}
use Rattle.fuse_rewrite.specs.Chains.{IsKeptLine}
use Rattle.fuse_rewrite.specs.Meaning.{Values, values_of_script}
use Rattle.script_run.specs.Fits.{FitsLists}
use Rattle.script_run.specs.Runs.{arguments_by, taken_by}

-- one argument, and a second one
abbrev pub listed : ℕ × Option ℕ → List ℕ
listed (x, None) = x ∷ []
listed (x, Some y) = x ∷ y ∷ []

abbrev pub takes : ℕ → List ℕ → Bool
takes n ns = list_any (λ m. m == n) ns

abbrev pub line_takes : ℕ → Option Statement → Bool
line_takes n l = takes n (arguments_by l)

-- a step takes the value of the line of this number
abbrev pub takes_line : List Statement → ℕ → Kept → Bool
takes_line lines n s = takes n (taken_by lines s)

-- a print line prints the value of the line of this number, or one of these steps takes it
abbrev pub is_needed : List Statement → List Kept → ℕ → Bool
is_needed lines steps n = list_any (prints_line n) lines || list_any (takes_line lines n) steps

-- The table holds the values of inputs and of the lines of the steps that are done, as far as they are needed: they are
-- printed, or steps to come take them.
abbrev pub AreHeld : List Statement → List Kept → List Kept → Values → Values → Type 0
AreHeld lines done to_come values table = (n : ℕ) → IsKeptLine lines done n → is_needed lines to_come n ≡ true → slice_get table n ≡ slice_get values n

-- it holds what these lines stand for over data that fits
pub record Holds (lines : List Statement) (done to_come : List Kept) (sections : List Section) (table : Values) : Type 0 where
  pub fits : FitsLists lines sections
  pub held : AreHeld lines done to_come (values_of_script sections lines) table

-- the table without the value of the line of this number, unless it is needed
abbrev pub dropped : List Statement → List Kept → ℕ → Values → Values
dropped lines steps n table = if is_needed lines steps n then table else slice_set table n None

-- without the values of all of these lines
abbrev pub all_dropped : List Statement → List Kept → List ℕ → Values → Values
all_dropped lines steps [] table = table
all_dropped lines steps (n ∷ ns) table = all_dropped lines steps ns (dropped lines steps n table)
