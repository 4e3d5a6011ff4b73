-- Chains of a plan's steps are linked: each line of a chain is all that the next one takes, and the rest is kept.
use Rattle.std.specs.Prelude.{◌≡◌, ◌⊎◌, ℕ, ◌<◌, true, List, [], ◌∷◌, map, take, reverse, All, AllPairs, Option, Some, slice_get}
use Rattle.script_lang.specs.declared.kind.Kind.TheVariants as kind
use Rattle.script_lang.specs.declared.line.Line.{Line}
use Rattle.script_lang.specs.Syntax.{Binding, Skeleton, Statement, binds_input, binds_let, prints}
use Rattle.script_lang.specs.Views.{statement_of}
use Rattle.script_lang.specs.Sound.{IsTypedScript}
use Rattle.fuse_rewrite.specs.Uses.{takes_pipe}
use Rattle.fuse_rewrite.specs.Steps.{makes_pipe, Kept, steps_of, has_step}

-- the line of this number binds an input
abbrev pub IsInputLine : List Statement → ℕ → Type 0
IsInputLine lines n = (b : Binding) × (like : Option ℕ) × (slice_get lines n ≡ Some (binds_input b like))

-- the line of this number binds a let, and has one of these steps
abbrev pub IsStepLine : List Statement → List Kept → ℕ → Type 0
IsStepLine lines steps n = (b : Binding) × (t : Skeleton) × (slice_get lines n ≡ Some (binds_let b t)) × (has_step steps n ≡ true)

-- the line of this number is an input, or has one of these steps
abbrev pub IsKeptLine : List Statement → List Kept → ℕ → Type 0
IsKeptLine lines steps n = IsInputLine lines n ⊎ IsStepLine lines steps n

-- the lines of these numbers stand above line n, and each is an input or has one of these steps
abbrev pub AreKeptAbove : List Statement → List Kept → ℕ → List ℕ → Type 0
AreKeptAbove lines steps n [] = Unit {0}
AreKeptAbove lines steps n (m ∷ ms) = (m < n) × IsKeptLine lines steps m × AreKeptAbove lines steps n ms

-- the skeleton t of line n takes the list of line m as it comes, and takes nothing else; line m binds it by the skeleton u
pub record IsLink (lines : List Statement) (n : ℕ) (t : Skeleton) (m : ℕ) (b : Binding) (u : Skeleton) : Type 0 where
  pub above : m < n
  pub line : slice_get lines m ≡ Some (binds_let b u)
  pub list : b.kind ≡ kind.List
  pub makes : makes_pipe u.head ≡ true
  pub takes : takes_pipe t.head ≡ true
  pub only : t.arguments ≡ m ∷ []

-- from the skeleton t of line n on, these lines are linked one below the other, and the last one takes kept lines
abbrev pub AreLinked : List Statement → List Kept → ℕ → Skeleton → List ℕ → Type 0
AreLinked lines steps n t [] = AreKeptAbove lines steps n t.arguments
AreLinked lines steps n t (m ∷ ms) = (b : Binding) × (u : Skeleton) × IsLink lines n t m b u × AreLinked lines steps m u ms

-- the line of a step binds a let, and its chain is linked, from its end on; what it takes are inputs or lines of these steps
abbrev pub IsLinkedStep : List Statement → List Kept → Kept → Type 0
IsLinkedStep lines steps s = (b : Binding) × (t : Skeleton) × (slice_get lines s.line ≡ Some (binds_let b t)) × AreLinked lines steps s.line t (reverse s.chain)

-- after line m, which is bound by the skeleton u, each of these lines takes the one before it, and the skeleton t of line n the last of them
abbrev pub AreLinkedAfter : List Statement → ℕ → Binding → Skeleton → List ℕ → ℕ → Skeleton → Type 0
AreLinkedAfter lines m b u [] n t = IsLink lines n t m b u
AreLinkedAfter lines m b u (k ∷ ks) n t = (c : Binding) × (v : Skeleton) × IsLink lines k v m b u × AreLinkedAfter lines k c v ks n t

-- the same chain from the head on: its first line takes kept lines, each later one the line before it, and the skeleton t of line n the last
abbrev pub AreLinkedFromHead : List Statement → List Kept → List ℕ → ℕ → Skeleton → Type 0
AreLinkedFromHead lines steps [] n t = AreKeptAbove lines steps n t.arguments
AreLinkedFromHead lines steps (m ∷ ms) n t = (b : Binding) × (u : Skeleton) × AreKeptAbove lines steps m u.arguments × AreLinkedAfter lines m b u ms n t

-- a chain that is linked from its end on is so from the head on
abbrev pub EachChainRunsFromHead : Type 0
EachChainRunsFromHead = (lines : List Statement) (steps : List Kept) (n : ℕ) (t : Skeleton) (chain : List ℕ) → AreLinked lines steps n t (reverse chain) → AreLinkedFromHead lines steps chain n t

-- what a print line prints stands above it, and is an input or has one of these steps
abbrev pub IsPrintable : List Statement → List Kept → Type 0
IsPrintable lines steps = (i n : ℕ) → slice_get lines i ≡ Some (prints n) → (n < i) × IsKeptLine lines steps n

-- each step is linked to inputs and to earlier steps
abbrev pub AreRunnable : List Statement → List Kept → Type 0
AreRunnable lines steps = (i : ℕ) (s : Kept) → slice_get steps i ≡ Some s → IsLinkedStep lines (take i steps) s

-- steps come in the order of their lines, at most one for each
abbrev pub AreInOrder : List Kept → Type 0
AreInOrder steps = AllPairs (λ r s. r.line < s.line) steps

-- of every typed script
abbrev pub EachStepIsLinked : Type 0
EachStepIsLinked = (ls : List Line) → IsTypedScript (map statement_of ls) → AreRunnable (map statement_of ls) (steps_of (map statement_of ls))

abbrev pub StepsAreInOrder : Type 0
StepsAreInOrder = (lines : List Statement) → AreInOrder (steps_of lines)

abbrev pub EachPrintIsKept : Type 0
EachPrintIsKept = (ls : List Line) → IsTypedScript (map statement_of ls) → IsPrintable (map statement_of ls) (steps_of (map statement_of ls))
