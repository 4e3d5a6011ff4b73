-- Files in memory, and which of them is read.
use Rattle.std.specs.Prelude.{ℕ, List, Option, map, option_map, find, position, drop, string_bytes, bytes_eq, String, Vec, []}
use Rattle.std.specs.Option.{option_map_or}
use Rattle.std.specs.declared.alloc.Global.{Global}

-- a file: its name and its bytes
pub record File : Type 0 where
  pub name : List ℕ
  pub bytes : List ℕ

-- files in their order, and the started one with the bytes that are left of it
pub record Held : Type 0 where
  pub files : List File
  pub reading : Option File

-- the files that a list of names and bytes stands for
abbrev pub file_list : List (String Global × Vec ℕ Global) → List File
file_list pairs = map (λ p. record { name = string_bytes p.0; bytes = p.1.items }) pairs

-- the first file of this name, and its place
abbrev pub file_of : List File → List ℕ → Option File
file_of files name = find (λ f. bytes_eq f.name name) files

abbrev pub place_of : List File → List ℕ → Option ℕ
place_of files name = position (λ f. bytes_eq f.name name) files

-- the bytes under this name
abbrev pub content_of : List File → List ℕ → Option (List ℕ)
content_of files name = option_map (λ f. f.bytes) (file_of files name)

-- the same files with this one started, or none
abbrev pub with_reading : Held → Option File → Held
with_reading held file = record held { reading = file }

-- what is left of the started file
abbrev pub rest_of : Held → List ℕ
rest_of held = option_map_or (λ f. f.bytes) held.reading []

-- a file without its first n bytes
abbrev pub file_from : ℕ → File → File
file_from n f = record f { bytes = drop n f.bytes }

-- the same files with n bytes more read of the started one
abbrev pub after_piece : Held → ℕ → Held
after_piece held n = record held { reading = option_map (file_from n) held.reading }
