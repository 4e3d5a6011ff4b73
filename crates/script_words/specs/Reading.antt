-- The smallest parts of a line. A line ends at the column just past its last word.
use Rattle.std.specs.Prelude.{ℕ, ◌+◌, ◌-◌, slice_get, List, [], ◌∷◌, length, nat_lt, Option, Some, None, Ok, Err, ℤ, bytes_eq, if◌then◌else◌}
use Rattle.plain_text.specs.Numbers.{number_of, is_name}
use Rattle.script_words.specs.declared.fault.ScriptWhat.TheVariants.{BadLine}
use Rattle.script_words.specs.Lines.{Token}
use Rattle.script_words.specs.Read.{Read, ◌>>=◌, or_fault, unless, spot}

abbrev pub last_word : List Token → Option Token
last_word ts = slice_get ts (length ts - 1)

-- the column just past the last word
abbrev pub end_of : List Token → ℕ
end_of ts = elim (last_word ts) [ None ↦ 1 | Some t ↦ t.column + length t.text ]

-- a part of a line that ends at this column: it is read from words, and others are left
abbrev pub Reads : Type 0 → Type 0
Reads X = ℕ → List Token → Read (X × List Token)

unfoldable pub next : Reads Token
next end [] = Err (spot end BadLine)
next end (t ∷ ts) = Ok (t, ts)

unfoldable pub name_at : Reads Token
name_at end ts = do
  t ← next end ts
  _ ← unless (is_name t.0.text) t.0.column BadLine
  Ok t

-- this very word
unfoldable pub this_at : List ℕ → Reads Token
this_at word end ts = do
  t ← next end ts
  _ ← unless (bytes_eq t.0.text word) t.0.column BadLine
  Ok t

-- a number of w64, of at most 40 bytes
abbrev pub short_number : List ℕ → Option ℤ
short_number text = if nat_lt (length text) 41 then number_of text else None

unfoldable pub number_at : Reads ℤ
number_at end ts = do
  t ← next end ts
  n ← or_fault (short_number t.0.text) t.0.column BadLine
  Ok (n, t.1)

abbrev pub nothing_more : List Token → Read (Unit {0})
nothing_more [] = Ok tt
nothing_more (t ∷ ts) = Err (spot t.column BadLine)
