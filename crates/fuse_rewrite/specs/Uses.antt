-- How names are used: by print lines, and by the let lines that are needed. Lines are named by their numbers.
use Rattle.std.specs.Prelude.{ℕ, ◌+◌, Bool, true, false, ◌==◌, List, [], ◌∷◌, ◌++◌, map, if◌then◌else◌}
use Rattle.script_lang.specs.declared.head.Head.{Head}
use Rattle.script_lang.specs.declared.head.Head.TheVariants as head
use Rattle.script_lang.specs.Syntax.{Statement, binds_input, binds_let, prints}

-- a print line prints the name, a skeleton takes the elements of its list as they come, or another skeleton takes it
pub data Use : Type 0 where
  by_print : Use
  by_pipe : Use
  by_other : Use

-- a name, and one use of it
abbrev pub Uses : Type 0
Uses = List (ℕ × Use)

-- skeletons that take the elements of a list as they come
abbrev pub takes_pipe : Head → Bool
takes_pipe head.Map = true
takes_pipe head.Filter = true
takes_pipe head.Rev = true
takes_pipe head.Reduce = true
takes_pipe head.Scan = true
takes_pipe head.Scanr = true
takes_pipe head.Plain = true
takes_pipe h = false

abbrev pub use_by : Head → Use
use_by h = if takes_pipe h then by_pipe else by_other

-- the uses of this name
abbrev pub uses_of : ℕ → Uses → List Use
uses_of n [] = []
uses_of n (u ∷ us) = if u.0 == n then u.1 ∷ uses_of n us else uses_of n us

-- a name is needed where it is used
abbrev pub is_needed : List Use → Bool
is_needed [] = false
is_needed (u ∷ us) = true

-- The uses by a line and by the lines below it, whose uses are given. A print line uses a name, and a let line each of its
-- arguments where it is needed; an input that is like another one doesn't use it.
abbrev pub uses_with : Bool → Statement → Uses → Uses
uses_with needed (binds_input b like) below = below
uses_with needed (binds_let b s) below = if needed then map (λ a. (a, use_by s.head)) s.arguments ++ below else below
uses_with needed (prints m) below = (m, by_print) ∷ below

-- the line of this number, whose name is needed where the lines below use it
abbrev pub uses_above : ℕ → Statement → Uses → Uses
uses_above n l below = uses_with (is_needed (uses_of n below)) l below

-- the uses by these lines, the first of which has this number
unfoldable pub uses_from : ℕ → List Statement → Uses
uses_from n [] = []
uses_from n (l ∷ ls) = uses_above n l (uses_from (n + 1) ls)

abbrev pub all_uses : List Statement → Uses
all_uses lines = uses_from 0 lines
