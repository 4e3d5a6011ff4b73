-- Lines of a script and their words, with line and column.
use Rattle.std.specs.Prelude.{ℕ, ◌+◌, Bool, true, false, ◌||◌, ◌&&◌, not, ◌==◌, List, [], ◌∷◌, map, filter, find, if◌then◌else◌, Option, Some, None}
use Rattle.std.specs.List.{slice_split, enumerate_from}

-- the lines between line feeds: one more than there are line feeds
abbrev pub lines_of : List ℕ → List (List ℕ)
lines_of bytes = slice_split (λ b. b == 10) bytes

-- space, tab and carriage return
abbrev pub is_line_blank : ℕ → Bool
is_line_blank b = (b == 32) || (b == 9) || (b == 13)

abbrev pub is_parenthesis : ℕ → Bool
is_parenthesis b = (b == 40) || (b == 41)

-- whether a word of several bytes ends before this byte
abbrev pub ends_word : ℕ → Bool
ends_word b = is_line_blank b || is_parenthesis b

-- a word, and the column of its first byte
pub record Token : Type 0 where
  pub column : ℕ
  pub text : List ℕ

-- whether a word goes on with the first of these bytes
abbrev pub goes_on : List ℕ → Bool
goes_on [] = false
goes_on (b ∷ bs) = not (ends_word b)

-- a byte in front of these words: joined to the first of them, or a word of its own
abbrev pub with_byte : ℕ → ℕ → Bool → List Token → List Token
with_byte column b true (t ∷ ts) = record { column = column; text = b ∷ t.text } ∷ ts
with_byte column b joins ts = record { column = column; text = b ∷ [] } ∷ ts

-- the words of these bytes, the first of which stands at this column
unfoldable pub tokens_from : ℕ → List ℕ → List Token
tokens_from column [] = []
tokens_from column (b ∷ bs) =
    if is_line_blank b then tokens_from (column + 1) bs
    else with_byte column b (not (is_parenthesis b) && goes_on bs) (tokens_from (column + 1) bs)

-- by its first byte other than blanks: an empty line has none, a comment has `;` there
abbrev pub says_something : Option ℕ → Bool
says_something None = false
says_something (Some b) = not (b == 59)

-- whether a line is neither empty nor a comment
abbrev pub has_words : List ℕ → Bool
has_words line = says_something (find (λ b. not (is_line_blank b)) line)

-- a line that has words, with its number
pub record Source : Type 0 where
  pub number : ℕ
  pub tokens : List Token

abbrev pub source_of : ℕ × List ℕ → Source
source_of l = record { number = l.0; tokens = tokens_from 1 l.1 }

-- the lines that are neither empty nor comments, where the first has this number
abbrev pub sources_from : ℕ → List (List ℕ) → List Source
sources_from number lines = map source_of (filter (λ l. has_words l.1) (enumerate_from number lines))

-- those of a script
abbrev pub sources_of : List ℕ → List Source
sources_of bytes = sources_from 1 (lines_of bytes)
