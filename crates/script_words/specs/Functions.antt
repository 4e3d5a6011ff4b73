-- Functions as they are written: a scalar, or a tuple of two to four of them.
use Rattle.std.specs.Prelude.{ℕ, zero, suc, Bool, false, ◌&&◌, List, [], ◌∷◌, ◌++◌, map, drop, Option, Some, None, option_map, Ok, Err, codes, bytes_eq, if◌then◌else◌}
use Rattle.std.specs.List.{flat_map}
use Rattle.scalar_expr.specs.declared.pair.Pair.{Pair}
use Rattle.scalar_expr.specs.declared.pair.Pair.TheVariants as pair
use Rattle.scalar_expr.specs.Expr.{Expr, lit, part, two, cond, wrap}
use Rattle.script_words.specs.declared.fault.ScriptWhat.TheVariants.{BadLine, TooDeep}
use Rattle.script_words.specs.declared.calc.Calc.{Calc}
use Rattle.script_words.specs.declared.calc.Calc.TheVariants as calc
use Rattle.script_words.specs.Lines.{Token}
use Rattle.script_words.specs.Read.{Read, ◌>>=◌, or_fault, spot}
use Rattle.script_words.specs.Reading.{Reads, next, this_at, short_number}

-- what a table of words has for a word
abbrev pub look_up : {X : Type 0} → List (List ℕ × X) → List ℕ → Option X
look_up [] w = None
look_up (row ∷ rows) w = if bytes_eq w row.0 then Some row.1 else look_up rows w

-- a scalar, with the columns of its nodes in postorder
pub record Spelled : Type 0 where
  pub scalar : Expr
  pub columns : List ℕ

-- a function's scalars, the columns of their nodes in postorder, and the column of its first word
pub record Function : Type 0 where
  pub scalars : List Expr
  pub columns : List ℕ
  pub at : ℕ

abbrev pub part_number : List ℕ → Option ℕ
part_number = look_up ((codes "#0", 0) ∷ (codes "#1", 1) ∷ (codes "#2", 2) ∷ (codes "#3", 3) ∷ [])

-- a component or a literal
abbrev pub atom_of : List ℕ → Option Expr
atom_of text = elim (part_number text) [ Some i ↦ Some (part i) | None ↦ option_map lit (short_number text) ]

unfoldable pub atom_at : Token → List Token → Read (Spelled × List Token)
atom_at t ts = do
  s ← or_fault (atom_of t.text) t.column BadLine
  Ok (record { scalar = s; columns = t.column ∷ [] }, ts)

-- the words that may follow a `(`
abbrev pub calcs : List (List ℕ × Calc)
calcs = (codes "+", calc.Two pair.Add) ∷ (codes "-", calc.Two pair.Sub) ∷ (codes "*", calc.Two pair.Mul)
    ∷ (codes "min", calc.Two pair.Min) ∷ (codes "max", calc.Two pair.Max) ∷ (codes "<", calc.Two pair.Less) ∷ (codes "=", calc.Two pair.Same)
    ∷ (codes "and", calc.Two pair.And) ∷ (codes "or", calc.Two pair.Or) ∷ (codes "xor", calc.Two pair.Xor)
    ∷ (codes "if", calc.Cond) ∷ (codes "wrap", calc.Wrap) ∷ []

-- the column of an operator's word comes after those of its parts
abbrev pub wrapped : Spelled → ℕ → Spelled
wrapped a column = record { scalar = wrap a.scalar; columns = a.columns ++ column ∷ [] }

abbrev pub paired : Pair → Spelled → Spelled → ℕ → Spelled
paired op a b column = record { scalar = two op a.scalar b.scalar; columns = a.columns ++ b.columns ++ column ∷ [] }

abbrev pub chosen : Spelled → Spelled → Spelled → ℕ → Spelled
chosen c a b column = record { scalar = cond c.scalar a.scalar b.scalar; columns = c.columns ++ a.columns ++ b.columns ++ column ∷ [] }

-- the parts of an operator whose word has this column
unfoldable pub parts_at : Reads Spelled → Calc → ℕ → Reads Spelled
parts_at read calc.Wrap column end ts = do
  a ← read end ts
  Ok (wrapped a.0 column, a.1)
parts_at read (calc.Two op) column end ts = do
  a ← read end ts
  b ← read end a.1
  Ok (paired op a.0 b.0 column, b.1)
parts_at read calc.Cond column end ts = do
  c ← read end ts
  a ← read end c.1
  b ← read end a.1
  Ok (chosen c.0 a.0 b.0 column, b.1)

-- what stands after a `(`
unfoldable pub nested_at : Reads Spelled → Reads Spelled
nested_at read end ts = do
  t ← next end ts
  op ← or_fault (look_up calcs t.0.text) t.0.column BadLine
  p ← parts_at read op t.0.column end t.1
  close ← this_at (codes ")") end p.1
  Ok (p.0, close.1)

abbrev pub is_open : Token → Bool
is_open t = bytes_eq t.text (codes "(")

-- a scalar in which so many `(` may be open at once
unfoldable pub scalar_at : ℕ → Reads Spelled
scalar_at zero end ts = do
  t ← next end ts
  if is_open t.0 then Err (spot t.0.column TooDeep) else atom_at t.0 t.1
scalar_at (suc room) end ts = do
  t ← next end ts
  if is_open t.0 then nested_at (scalar_at room) end t.1 else atom_at t.0 t.1

abbrev pub begins_tuple : List Token → Bool
begins_tuple (a ∷ b ∷ ts) = is_open a && bytes_eq b.text (codes "tuple")
begins_tuple ts = false

abbrev pub closes : List Token → Bool
closes [] = false
closes (t ∷ ts) = bytes_eq t.text (codes ")")

-- at most so many more scalars, and the `)` of a tuple
unfoldable pub others_at : ℕ → Reads (List Spelled)
others_at zero end ts = do
  close ← this_at (codes ")") end ts
  Ok ([], close.1)
others_at (suc n) end ts = if closes ts then Ok ([], drop 1 ts) else (do
  s ← scalar_at 29 end ts
  ss ← others_at n end s.1
  Ok (s.0 ∷ ss.0, ss.1))

-- the `(` of a tuple isn't counted among the 29 that may be open
unfoldable pub scalars_at : Reads (List Spelled)
scalars_at end ts = if begins_tuple ts
    then (do
      a ← scalar_at 29 end (drop 2 ts)
      b ← scalar_at 29 end a.1
      ss ← others_at 2 end b.1
      Ok (a.0 ∷ b.0 ∷ ss.0, ss.1))
    else (do
      a ← scalar_at 29 end ts
      Ok (a.0 ∷ [], a.1))

abbrev pub function_with : List Spelled → ℕ → Function
function_with ss at = record { scalars = map (λ s. s.scalar) ss; columns = flat_map (λ s. s.columns) ss; at = at }

unfoldable pub function_at : Reads Function
function_at end ts = do
  t ← next end ts
  ss ← scalars_at end ts
  Ok (function_with ss.0 t.0.column, ss.1)
