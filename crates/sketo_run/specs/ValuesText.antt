-- The text of printed values.
use Rattle.std.specs.Prelude.{ℕ, List}
use Rattle.std.specs.List.{flat_map}
use Rattle.data_text.specs.declared.value.Named.{Named}
use Rattle.data_text.specs.Printed.{text_of}

-- a line for each
abbrev pub values_text : List Named → List ℕ
values_text values = flat_map text_of values
