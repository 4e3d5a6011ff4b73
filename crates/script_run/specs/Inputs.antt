-- What the inputs of a script read. No public clause cites this file.
use Rattle.std.specs.Prelude.{◌≡◌, ℤ, List, Option, Some, None}
use Rattle.data_text.specs.declared.value.Value.{Value}
use Rattle.data_text.specs.Data.{many, Section}
use Rattle.script_lang.specs.Syntax.{Statement, binds_input, binds_let, prints}
use Rattle.fuse_rewrite.specs.Meaning.{content_under, list_read}

-- the list that an input reads; another line reads none
abbrev pub input_value : List Section → Statement → Option Value
input_value sections (binds_input b like) = list_read (content_under b.name sections)
input_value sections (binds_let b s) = None
input_value sections (prints n) = None

-- the data has a list for the line, if it is an input
abbrev pub ReadsList : List Section → Statement → Type 0
ReadsList sections (binds_input b like) = (numbers : List ℤ) × (content_under b.name sections ≡ Some (many numbers))
ReadsList sections (binds_let b s) = Unit {0}
ReadsList sections (prints n) = Unit {0}
