-- How data fits a script: each input has a section of its name, of its kind, and with the shape of the input that it is like.
use Rattle.std.specs.Prelude.{ℕ, ◌+◌, Bool, true, false, ◌&&◌, ◌==◌, List, [], ◌∷◌, length, Option, Some, None, option_and_then, Result, Ok, Err, ℤ, if◌then◌else◌}
use Rattle.std.specs.List.{list_all}
use Rattle.data_text.specs.Data.{Mark, inner, leaf, Content, many, grid, tree, rose, Section}
use Rattle.script_lang.specs.declared.kind.Kind.{Kind}
use Rattle.script_lang.specs.declared.kind.Kind.TheVariants as kind
use Rattle.script_lang.specs.Syntax.{Binding, Statement, binds_input, binds_let, prints}
use Rattle.script_lang.specs.Sound.{binding_at}
use Rattle.script_lang.specs.Tables.{same_kind}
use Rattle.fuse_rewrite.specs.Meaning.{content_under}
use Rattle.script_run.specs.declared.fitting.FitFault.{FitFault}
use Rattle.script_run.specs.declared.fitting.FitFault.TheVariants.{NotThere, WrongKind, NotLike}

-- ---- kinds and shapes

-- a section fits an input of this kind; one value fits none
abbrev pub is_of_kind : Kind → Content → Bool
is_of_kind kind.List (many xs) = true
is_of_kind kind.Matrix (grid rows cols xs) = true
is_of_kind kind.Tree (tree nodes) = true
is_of_kind kind.Rose (rose nodes) = true
is_of_kind k c = false

abbrev pub same_mark : Mark → Mark → Bool
same_mark inner inner = true
same_mark leaf leaf = true
same_mark m n = false

-- as many nodes, with the same marks in preorder
abbrev pub same_marks : List (Mark × ℤ) → List (Mark × ℤ) → Bool
same_marks [] [] = true
same_marks (m ∷ ms) (n ∷ ns) = same_mark m.0 n.0 && same_marks ms ns
same_marks ms ns = false

-- as many nodes, with the same numbers of children in preorder
abbrev pub same_counts : List (ℤ × ℕ) → List (ℤ × ℕ) → Bool
same_counts [] [] = true
same_counts (m ∷ ms) (n ∷ ns) = (m.1 == n.1) && same_counts ms ns
same_counts ms ns = false

-- the same kind, and as long, with as many rows and columns, or with the same nodes but for their values
abbrev pub same_shape : Content → Content → Bool
same_shape (many xs) (many ys) = length xs == length ys
same_shape (grid rows cols xs) (grid rows' cols' ys) = (rows == rows') && (cols == cols')
same_shape (tree ms) (tree ns) = same_marks ms ns
same_shape (rose ms) (rose ns) = same_counts ms ns
same_shape c d = false

-- ---- inputs

abbrev pub content_for : List Section → Binding → Option Content
content_for sections b = content_under b.name sections

-- what the data has under the name that the line of this number binds
abbrev pub content_at : List Statement → List Section → ℕ → Option Content
content_at lines sections n = option_and_then (content_for sections) (binding_at lines n)

abbrev pub has_shape_of : Option Content → Content → Bool
has_shape_of None c = false
has_shape_of (Some d) c = same_shape d c

-- the section has the shape of the input that its own is like, if it is like one
abbrev pub is_like : List Statement → List Section → Option ℕ → Content → Bool
is_like lines sections None c = true
is_like lines sections (Some m) c = has_shape_of (content_at lines sections m) c

abbrev pub Fit : Type 0
Fit = Result (Unit {0}) FitFault

-- how a section fits the input of number i
abbrev pub content_fit : List Statement → List Section → ℕ → Binding → Option ℕ → Option Content → Fit
content_fit lines sections i b like None = Err (NotThere i)
content_fit lines sections i b like (Some c) = if is_of_kind b.kind c then (if is_like lines sections like c then Ok tt else Err (NotLike i)) else Err (WrongKind i)

-- how the data fits a line, before which there are so many inputs
abbrev pub line_fit : List Statement → List Section → ℕ → Statement → Fit
line_fit lines sections i (binds_input b like) = content_fit lines sections i b like (content_for sections b)
line_fit lines sections i (binds_let b s) = Ok tt
line_fit lines sections i (prints n) = Ok tt

-- ---- scripts

abbrev pub inputs_after : ℕ → Statement → ℕ
inputs_after i (binds_input b like) = i + 1
inputs_after i (binds_let b s) = i
inputs_after i (prints n) = i

abbrev pub unless_fault : Fit → Fit → Fit
unless_fault (Ok x) next = next
unless_fault (Err e) next = Err e

-- the first fault in these lines of a script, before which there are so many inputs
abbrev pub fit_from : List Statement → List Section → ℕ → List Statement → Fit
fit_from lines sections i [] = Ok tt
fit_from lines sections i (l ∷ ls) = unless_fault (line_fit lines sections i l) (fit_from lines sections (inputs_after i l) ls)

-- how the data fits a script: the first fault in the order of its lines, or none
abbrev pub fit_of : List Statement → List Section → Fit
fit_of lines sections = fit_from lines sections 0 lines

-- ---- scripts over lists

-- a line is no input, or that of a list
abbrev pub takes_list : Statement → Bool
takes_list (binds_input b like) = same_kind b.kind kind.List
takes_list (binds_let b s) = true
takes_list (prints n) = true

-- each input is a list
abbrev pub over_lists : List Statement → Bool
over_lists lines = list_all takes_list lines
