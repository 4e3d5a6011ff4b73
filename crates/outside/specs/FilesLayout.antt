-- How files in memory lie, and which one is open. No public clause cites this file.
use Rattle.std.specs.Prelude.{◌≡◌, ℕ, ◌≤◌, Option, Some, option_map, option_and_then, slice_get, length}
use Rattle.outside.specs.Files.{File, Held, file_list, file_from, place_of}
use Rattle.outside.specs.declared.files.Files.TheInside.{Inside}

-- the open file from its offset on
abbrev pub reading_of : Inside → Option File
reading_of inside =
    option_and_then (λ i. option_map (file_from inside.at) (slice_get (file_list inside.files.items) i)) inside.started

abbrev pub held_of : Inside → Held
held_of inside = record { files = file_list inside.files.items; reading = reading_of inside }

-- the open file is the first of its name, and the offset is in it
abbrev pub IsOpen : Inside → Type 0
IsOpen inside =
    (i : ℕ) → inside.started ≡ Some i → (f : File) × (slice_get (file_list inside.files.items) i ≡ Some f) × (place_of (file_list inside.files.items) f.name ≡ Some i) × (inside.at ≤ length f.bytes)
