-- How data fits scripts, worked out by hand.
use Rattle.std.proofs.Common.{◌≡◌, List, [], ◌∷◌, refl, Option, Some, None, Ok, Err}
use Rattle.std.specs.Prelude.{ℕ, pos, codes}
use Rattle.op_laws.specs.declared.width.Width.TheVariants.{W64}
use Rattle.data_text.specs.Data.{inner, leaf, Content, single, many, grid, tree, rose, Section}
use Rattle.script_lang.specs.declared.kind.Kind.{Kind}
use Rattle.script_lang.specs.declared.kind.Kind.TheVariants as kind
use Rattle.script_lang.specs.declared.head.Head.TheVariants as head
use Rattle.script_lang.specs.Syntax.{Statement, binds_input, binds_let, prints}
use Rattle.script_run.specs.declared.fitting.FitFault.TheVariants.{NotThere, WrongKind, NotLike}
use Rattle.script_run.specs.Fit.{fit_of}

-- an input of this name, whose shapes don't count here
abbrev input : List ℕ → Kind → Option ℕ → Statement
input name k like = binds_input (record { name = name; kind = k; ty = W64 ∷ []; shape = 1; across = 2 }) like

abbrev turned : List ℕ → ℕ → Statement
turned name x = binds_let (record { name = name; kind = kind.List; ty = W64 ∷ []; shape = 1; across = 0 }) (record { head = head.Rev; functions = []; ops = []; numbers = []; arguments = x ∷ [] })

abbrev holds : List ℕ → Content → Section
holds name c = record { name = name; content = c }

-- a list, and one that is as long
abbrev pair : List Statement
pair = input (codes "x") kind.List None ∷ turned (codes "r") 0 ∷ input (codes "y") kind.List (Some 0) ∷ prints 1 ∷ []

no_inputs : fit_of (prints 0 ∷ []) [] ≡ Ok tt
no_inputs = refl

as_long : fit_of pair (holds (codes "z") (single (pos 1)) ∷ holds (codes "y") (many (pos 3 ∷ pos 4 ∷ [])) ∷ holds (codes "x") (many (pos 1 ∷ pos 2 ∷ [])) ∷ []) ≡ Ok tt
as_long = refl

longer : fit_of pair (holds (codes "x") (many (pos 1 ∷ pos 2 ∷ [])) ∷ holds (codes "y") (many (pos 3 ∷ pos 4 ∷ pos 5 ∷ [])) ∷ []) ≡ Err (NotLike 1)
longer = refl

-- inputs are counted, and not lines
missing : fit_of pair (holds (codes "x") (many (pos 1 ∷ pos 2 ∷ [])) ∷ []) ≡ Err (NotThere 1)
missing = refl

-- the first line that is at fault
first : fit_of pair (holds (codes "x") (single (pos 1)) ∷ []) ≡ Err (WrongKind 0)
first = refl

-- the kind comes before the shape
other_kind : fit_of pair (holds (codes "x") (many (pos 1 ∷ [])) ∷ holds (codes "y") (grid 1 1 (pos 1 ∷ [])) ∷ []) ≡ Err (WrongKind 1)
other_kind = refl

-- three that are alike, each to the one before
abbrev three : Kind → List Statement
three k = input (codes "a") k None ∷ input (codes "b") k (Some 0) ∷ input (codes "c") k (Some 1) ∷ []

abbrev all_three : Content → Content → Content → List Section
all_three a b c = holds (codes "a") a ∷ holds (codes "b") b ∷ holds (codes "c") c ∷ []

same_cells : fit_of (three kind.Matrix) (all_three (grid 1 2 (pos 1 ∷ pos 2 ∷ [])) (grid 1 2 (pos 3 ∷ pos 4 ∷ [])) (grid 2 1 (pos 5 ∷ pos 6 ∷ []))) ≡ Err (NotLike 2)
same_cells = refl

marks : fit_of (three kind.Tree) (all_three
    (tree ((inner, pos 1) ∷ (leaf, pos 2) ∷ (inner, pos 3) ∷ (leaf, pos 4) ∷ (leaf, pos 5) ∷ []))
    (tree ((inner, pos 0) ∷ (leaf, pos 0) ∷ (inner, pos 0) ∷ (leaf, pos 0) ∷ (leaf, pos 0) ∷ []))
    (tree ((inner, pos 1) ∷ (inner, pos 3) ∷ (leaf, pos 4) ∷ (leaf, pos 5) ∷ (leaf, pos 2) ∷ []))) ≡ Err (NotLike 2)
marks = refl

counts : fit_of (three kind.Rose) (all_three
    (rose ((pos 1, 2) ∷ (pos 2, 0) ∷ (pos 3, 0) ∷ []))
    (rose ((pos 7, 2) ∷ (pos 8, 0) ∷ (pos 9, 0) ∷ []))
    (rose ((pos 1, 1) ∷ (pos 2, 1) ∷ (pos 3, 0) ∷ []))) ≡ Err (NotLike 2)
counts = refl
