-- The form of a line: its words, or the first word at fault.
use Rattle.std.specs.Prelude.{ℕ, Bool, true, false, List, [], ◌∷◌, ◌++◌, Option, Some, None, Ok, Err, ℤ, codes, bytes_eq, if◌then◌else◌}
use Rattle.script_words.specs.declared.fault.ScriptWhat.TheVariants.{BadLine}
use Rattle.script_words.specs.Lines.{Token}
use Rattle.script_words.specs.Read.{Read, ◌>>=◌, or_fault, spot}
use Rattle.script_words.specs.Reading.{Reads, next, name_at, this_at, number_at, nothing_more}
use Rattle.script_words.specs.Functions.{look_up, Function, function_at}
use Rattle.script_lang.specs.declared.kind.Kind.{Kind}
use Rattle.script_lang.specs.declared.kind.Kind.TheVariants as kind
use Rattle.script_lang.specs.declared.head.Head.{Head}
use Rattle.script_lang.specs.declared.head.Head.TheVariants as head
use Rattle.script_lang.specs.Syntax.{Written, Form, input_form, let_form, print_form}

-- ---- skeletons

abbrev pub heads : List (List ℕ × Head)
heads = (codes "map", head.Map) ∷ (codes "mapln", head.Mapln) ∷ (codes "zip", head.Zip) ∷ (codes "filter", head.Filter)
    ∷ (codes "rev", head.Rev) ∷ (codes "iota", head.Iota) ∷ (codes "plain", head.Plain) ∷ (codes "reduce", head.Reduce)
    ∷ (codes "scan", head.Scan) ∷ (codes "scanr", head.Scanr) ∷ (codes "rows", head.Rows) ∷ (codes "cols", head.Cols)
    ∷ (codes "transpose", head.Transpose) ∷ (codes "uacc", head.Uacc) ∷ (codes "dacc", head.Dacc)
    ∷ (codes "getchl", head.Getchl) ∷ (codes "getchr", head.Getchr) ∷ []

-- what stands at one place of a skeleton
pub data Slot : Type 0 where
  a_function : Slot
  an_operator : Slot
  a_second_operator : Slot
  a_number : Slot
  an_argument : Slot

-- what stands after the word of a skeleton
abbrev pub slots_of : Head → List Slot
slots_of head.Map = a_function ∷ an_argument ∷ []
slots_of head.Filter = a_function ∷ an_argument ∷ []
slots_of head.Mapln = a_function ∷ a_function ∷ an_argument ∷ []
slots_of head.Zip = an_argument ∷ an_argument ∷ []
slots_of head.Reduce = an_operator ∷ a_second_operator ∷ an_argument ∷ []
slots_of head.Scan = an_operator ∷ a_second_operator ∷ an_argument ∷ []
slots_of head.Scanr = an_operator ∷ an_argument ∷ []
slots_of head.Rows = an_operator ∷ an_argument ∷ []
slots_of head.Cols = an_operator ∷ an_argument ∷ []
slots_of head.Uacc = an_operator ∷ an_argument ∷ []
slots_of head.Dacc = an_operator ∷ a_number ∷ an_argument ∷ []
slots_of head.Getchl = a_number ∷ an_argument ∷ []
slots_of head.Getchr = a_number ∷ an_argument ∷ []
slots_of head.Rev = an_argument ∷ []
slots_of head.Iota = an_argument ∷ []
slots_of head.Plain = an_argument ∷ []
slots_of head.Transpose = an_argument ∷ []

abbrev pub no_parts : Written
no_parts = record { functions = []; operators = []; numbers = []; arguments = [] }

abbrev pub with_function : Written → Function → Written
with_function w f = record w { functions = w.functions ++ f ∷ [] }

abbrev pub with_operator : Written → Token → Written
with_operator w o = record w { operators = w.operators ++ o ∷ [] }

abbrev pub with_number : Written → ℤ → Written
with_number w n = record w { numbers = w.numbers ++ n ∷ [] }

abbrev pub with_argument : Written → Token → Written
with_argument w x = record w { arguments = w.arguments ++ x ∷ [] }

abbrev pub more_than_one : List Token → Bool
more_than_one (a ∷ b ∷ ts) = true
more_than_one ts = false

-- an operator's place takes any name; a second operator stands exactly where more than one word is left
unfoldable pub slot_at : Slot → Written → Reads Written
slot_at a_function w end ts = do
  f ← function_at end ts
  Ok (with_function w f.0, f.1)
slot_at an_operator w end ts = do
  o ← name_at end ts
  Ok (with_operator w o.0, o.1)
slot_at a_second_operator w end ts = if more_than_one ts then (do
  o ← name_at end ts
  Ok (with_operator w o.0, o.1)) else Ok (w, ts)
slot_at a_number w end ts = do
  n ← number_at end ts
  Ok (with_number w n.0, n.1)
slot_at an_argument w end ts = do
  x ← name_at end ts
  Ok (with_argument w x.0, x.1)

unfoldable pub slots_at : List Slot → Written → Reads Written
slots_at [] w end ts = Ok (w, ts)
slots_at (s ∷ ss) w end ts = do
  x ← slot_at s w end ts
  slots_at ss x.0 end x.1

-- ---- lines

abbrev pub kinds : List (List ℕ × Kind)
kinds = (codes "list", kind.List) ∷ (codes "matrix", kind.Matrix) ∷ (codes "tree", kind.Tree) ∷ (codes "rose", kind.Rose) ∷ []

unfoldable pub like_at : ℕ → List Token → Read (Option Token)
like_at end [] = Ok None
like_at end (t ∷ ts) = do
  like ← this_at (codes "like") end (t ∷ ts)
  of ← name_at end like.1
  _ ← nothing_more of.1
  Ok (Some of.0)

unfoldable pub input_at : ℕ → List Token → Read Form
input_at end ts = do
  name ← name_at end ts
  t ← next end name.1
  k ← or_fault (look_up kinds t.0.text) t.0.column BadLine
  like ← like_at end t.1
  Ok (input_form name.0 k like)

unfoldable pub let_at : ℕ → List Token → Read Form
let_at end ts = do
  name ← name_at end ts
  equals ← this_at (codes "=") end name.1
  t ← next end equals.1
  h ← or_fault (look_up heads t.0.text) t.0.column BadLine
  w ← slots_at (slots_of h) no_parts end t.1
  _ ← nothing_more w.1
  Ok (let_form name.0 h w.0)

unfoldable pub print_at : ℕ → ℕ → List Token → Read Form
print_at at end ts = do
  of ← name_at end ts
  _ ← nothing_more of.1
  Ok (print_form at of.0)

unfoldable pub form_at : ℕ → List Token → Read Form
form_at end ts = do
  t ← next end ts
  if bytes_eq t.0.text (codes "input") then input_at end t.1 else
      (if bytes_eq t.0.text (codes "let") then let_at end t.1 else
      (if bytes_eq t.0.text (codes "print") then print_at t.0.column end t.1 else Err (spot t.0.column BadLine)))
