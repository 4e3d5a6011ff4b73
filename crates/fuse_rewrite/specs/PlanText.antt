-- The text of a plan.
use Rattle.std.specs.Prelude.{ℕ, Bool, true, false, List, [], ◌∷◌, ◌++◌, map, codes, decimal, Option, Some, None, option_and_then, slice_get, flat_map, reverse, if◌then◌else◌}
use Rattle.std.specs.Fmt.{signed_decimal}
use Rattle.op_catalog.specs.Catalog.{name_of}
use Rattle.tree_names.specs.Names.{tree_name, down_name, rose_name, rose_down_name}
use Rattle.scalar_expr.specs.declared.pair.Pair.{Pair}
use Rattle.scalar_expr.specs.declared.pair.Pair.TheVariants as pair
use Rattle.scalar_expr.specs.Expr.{Expr, lit, part, two, cond, wrap}
use Rattle.script_lang.specs.declared.head.Head.{Head}
use Rattle.script_lang.specs.declared.head.Head.TheVariants as head
use Rattle.script_lang.specs.declared.op.Op.{Op}
use Rattle.script_lang.specs.declared.op.Op.TheVariants as op
use Rattle.script_lang.specs.Syntax.{Binding, Skeleton, Statement, binds_input, binds_let, prints}
use Rattle.script_lang.specs.Sound.{binding_at}
use Rattle.fuse_rewrite.specs.Steps.{last_of, Kept, steps_of}

-- ---- words

abbrev pub head_word : Head → List ℕ
head_word head.Map = codes "map"
head_word head.Mapln = codes "mapln"
head_word head.Zip = codes "zip"
head_word head.Filter = codes "filter"
head_word head.Rev = codes "rev"
head_word head.Iota = codes "iota"
head_word head.Plain = codes "plain"
head_word head.Reduce = codes "reduce"
head_word head.Scan = codes "scan"
head_word head.Scanr = codes "scanr"
head_word head.Rows = codes "rows"
head_word head.Cols = codes "cols"
head_word head.Transpose = codes "transpose"
head_word head.Uacc = codes "uacc"
head_word head.Dacc = codes "dacc"
head_word head.Getchl = codes "getchl"
head_word head.Getchr = codes "getchr"

abbrev pub op_word : Op → List ℕ
op_word (op.Flat o) = name_of o
op_word (op.Up o) = tree_name o
op_word (op.Down o) = down_name o
op_word (op.Rose o) = rose_name o
op_word (op.RoseDown o) = rose_down_name o

abbrev pub pair_word : Pair → List ℕ
pair_word pair.Add = codes "+"
pair_word pair.Sub = codes "-"
pair_word pair.Mul = codes "*"
pair_word pair.Min = codes "min"
pair_word pair.Max = codes "max"
pair_word pair.Less = codes "<"
pair_word pair.Same = codes "="
pair_word pair.And = codes "and"
pair_word pair.Or = codes "or"
pair_word pair.Xor = codes "xor"

-- texts, each after one space
abbrev pub parts_text : List (List ℕ) → List ℕ
parts_text [] = []
parts_text (t ∷ ts) = (32 ∷ t) ++ parts_text ts

-- ---- functions

-- texts, each after one space, and a closing parenthesis
abbrev pub closing_text : List (List ℕ) → List ℕ
closing_text [] = 41 ∷ []
closing_text (t ∷ ts) = (32 ∷ t) ++ closing_text ts

-- a word and texts between parentheses
abbrev pub call_text : List ℕ → List (List ℕ) → List ℕ
call_text word texts = (40 ∷ word) ++ closing_text texts

abbrev pub scalar_text : Expr → List ℕ
scalar_text (lit n) = signed_decimal n
scalar_text (part i) = 35 ∷ decimal i
scalar_text (two op a b) = call_text (pair_word op) (scalar_text a ∷ scalar_text b ∷ [])
scalar_text (cond c a b) = call_text (codes "if") (scalar_text c ∷ scalar_text a ∷ scalar_text b ∷ [])
scalar_text (wrap a) = call_text (codes "wrap") (scalar_text a ∷ [])

-- one scalar, or a tuple of them
abbrev pub function_text : List Expr → List ℕ
function_text [] = call_text (codes "tuple") []
function_text (s ∷ []) = scalar_text s
function_text (s ∷ t ∷ ss) = call_text (codes "tuple") (map scalar_text (s ∷ t ∷ ss))

-- ---- skeletons

abbrev pub name_by : Option Binding → List ℕ
name_by None = []
name_by (Some b) = b.name

-- the name that the line of this number binds
abbrev pub name_at : List Statement → ℕ → List ℕ
name_at lines n = name_by (binding_at lines n)

-- a skeleton without its names
abbrev pub front_text : Skeleton → List ℕ
front_text s = head_word s.head ++ (parts_text (map function_text s.functions) ++ (parts_text (map op_word s.ops) ++ parts_text (map signed_decimal s.numbers)))

-- a skeleton without its last name, and an arrow; only `zip`, which is never written so, has another name
abbrev pub open_text : Skeleton → List ℕ
open_text s = front_text s ++ codes " <- "

abbrev pub is_whole : Head → Bool
is_whole head.Zip = true
is_whole head.Iota = true
is_whole h = false

-- a skeleton that takes no fused name: whole, or with its last name behind an arrow
abbrev pub end_text : List Statement → Skeleton → List ℕ
end_text lines s = if is_whole s.head then front_text s ++ parts_text (map (name_at lines) s.arguments) else open_text s ++ name_at lines (last_of s.arguments)

-- ---- lines

abbrev pub skeleton_by : Statement → Option Skeleton
skeleton_by (binds_input b like) = None
skeleton_by (binds_let b s) = Some s
skeleton_by (prints n) = None

-- the skeleton of the line of this number
abbrev pub skeleton_at : List Statement → ℕ → Option Skeleton
skeleton_at lines n = option_and_then skeleton_by (slice_get lines n)

abbrev pub text_of : (Skeleton → List ℕ) → Option Skeleton → List ℕ
text_of text None = []
text_of text (Some s) = text s

-- the skeleton of the line of this number, over those of fused lines, of which each is the last name of the one before it
unfoldable pub pipe_text : List Statement → ℕ → List ℕ → List ℕ
pipe_text lines n [] = text_of (end_text lines) (skeleton_at lines n)
pipe_text lines n (m ∷ ms) = text_of open_text (skeleton_at lines n) ++ pipe_text lines m ms

-- the line of a step
abbrev pub step_text : List Statement → Kept → List ℕ
step_text lines s = name_at lines s.line ++ (codes " = " ++ (pipe_text lines s.line (reverse s.chain) ++ 10 ∷ []))

-- one line for each step
abbrev pub steps_text : List Statement → List Kept → List ℕ
steps_text lines steps = flat_map (step_text lines) steps

-- the text of a script's plan
abbrev pub plan_text : List Statement → List ℕ
plan_text lines = steps_text lines (steps_of lines)
