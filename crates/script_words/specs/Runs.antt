-- How far a word goes on, for the loop over a line. No public clause cites this file.
use Rattle.std.specs.Prelude.{ℕ, List, if◌then◌else◌}
use Rattle.std.specs.List.{position_or_len}
use Rattle.script_words.specs.Lines.{ends_word, is_parenthesis}

-- how many more bytes a word has after its first
abbrev pub rest_of_word : ℕ → List ℕ → ℕ
rest_of_word b bs = if is_parenthesis b then 0 else position_or_len ends_word bs
