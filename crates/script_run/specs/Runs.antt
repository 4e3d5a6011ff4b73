-- How a step is run over a table of values, and what it makes of them.
use Rattle.std.specs.Prelude.{◌≡◌, ℕ, List, [], ◌∷◌, map, Option, Some, slice_get}
use Rattle.op_laws.specs.Elements.{Elements}
use Rattle.data_text.specs.declared.value.Value.{Value}
use Rattle.data_text.specs.declared.value.Value.TheVariants as value
use Rattle.script_lang.specs.Syntax.{Binding, Skeleton, Statement, binds_let}
use Rattle.script_lang.specs.Sound.{AreSmall}
use Rattle.fuse_rewrite.specs.Steps.{Kept}
use Rattle.fuse_rewrite.specs.Chains.{IsInputLine}
use Rattle.fuse_rewrite.specs.Meaning.{Values, list_at, no_elements}
use Rattle.script_run.specs.Pipes.{entered_on, AreListsAt, ArePaired, ArePassing, Finishes, passed_along, type_along_lines, value_finished}

-- the line at whose arguments a chain begins that leads to line n
abbrev pub first_line : ℕ → List ℕ → ℕ
first_line n [] = n
first_line n (m ∷ ms) = m

abbrev pub arguments_by : Option Statement → List ℕ
arguments_by (Some (binds_let b s)) = s.arguments
arguments_by l = []

-- the lines whose values a step takes
abbrev pub taken_by : List Statement → Kept → List ℕ
taken_by lines s = arguments_by (slice_get lines (first_line s.line s.chain))

abbrev pub begun_by : Option Statement → Values → Elements
begun_by (Some (binds_let b s)) table = entered_on s.head (map (list_at table) s.arguments)
begun_by l table = no_elements

-- what the pipe of a chain that leads to line n begins with
abbrev pub begun : List Statement → Values → ℕ → List ℕ → Elements
begun lines table n chain = begun_by (slice_get lines (first_line n chain)) table

-- what comes of it along the chain
abbrev pub led : List Statement → List ℕ → Elements → Elements
led lines chain x = record { ty = type_along_lines lines chain x.ty; items = passed_along lines chain x.items }

abbrev pub finished_by : Option Statement → Elements → Value
finished_by (Some (binds_let b s)) x = value_finished b s x
finished_by l x = value.List x

-- what a step makes of the values in the table
abbrev pub value_of_step : List Statement → Values → Kept → Value
value_of_step lines table s = finished_by (slice_get lines s.line) (led lines s.chain (begun lines table s.line s.chain))

-- a skeleton begins a pipe
pub record Begins (lines : List Statement) (table : Values) (n : ℕ) : Type 0 where
  pub bound : Binding
  pub skeleton : Skeleton
  pub line : slice_get lines n ≡ Some (binds_let bound skeleton)
  pub lists : AreListsAt table skeleton.arguments
  pub paired : ArePaired skeleton.head table skeleton.arguments

-- a step can be run
pub record IsRunnable (lines : List Statement) (table : Values) (s : Kept) : Type 0 where
  pub begins : Begins lines table (first_line s.line s.chain)
  pub passing : ArePassing lines s.chain (begun lines table s.line s.chain).ty
  pub bound : Binding
  pub skeleton : Skeleton
  pub line : slice_get lines s.line ≡ Some (binds_let bound skeleton)
  pub finishes : Finishes skeleton.head skeleton.functions skeleton.ops (led lines s.chain (begun lines table s.line s.chain)).ty bound.ty
  pub small : AreSmall skeleton.functions

-- the table holds the values of inputs
abbrev pub AreInputsHeld : List Statement → Values → Values → Type 0
AreInputsHeld lines values table = (n : ℕ) → IsInputLine lines n → slice_get table n ≡ slice_get values n
