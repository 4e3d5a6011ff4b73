-- A shelf in memory that fails as it is told.
use Rattle.std.specs.Prelude.{◌==◌, ℕ, Bool, true, false, not, ◌&&◌, min, List, length, Option, Some, None, is_some, option_and_then, slice_index, slice_set}
use Rattle.std.specs.List.{list_any}
use Rattle.outside.specs.Outside.{raised}
use Rattle.outside.specs.Files.{Held, file_of, place_of, with_reading, rest_of, after_piece}

-- its files, the most bytes of a read, the numbers of the calls that are to fail, how many calls were made,
-- and how often calls failed: for each file, and for all names together that no file has
pub record MemShelfState : Type 0 where
  pub held : Held
  pub piece : ℕ
  pub fails : List ℕ
  pub calls : ℕ
  pub counts : List ℕ
  pub missed : ℕ

-- whether the next call is one that is to fail
abbrev pub is_planned : MemShelfState → Bool
is_planned s = list_any (λ call. call == s.calls) s.fails

-- the count of the file at this place, or of all names that no file has
abbrev pub count_at : MemShelfState → Option ℕ → ℕ
count_at s None = s.missed
count_at s (Some place) = slice_index s.counts place

-- how often calls for this name have failed
abbrev pub faults_of : MemShelfState → List ℕ → ℕ
faults_of s name = count_at s (place_of s.held.files name)

-- the shelf after one more fault in that count
abbrev pub with_fault : MemShelfState → Option ℕ → MemShelfState
with_fault s None = record s { missed = raised s.missed }
with_fault s (Some place) = record s { counts = slice_set s.counts place (raised (slice_index s.counts place)) }

-- whether a start of this name is Ok
abbrev pub starts : MemShelfState → List ℕ → Bool
starts s name = not (is_planned s) && is_some (file_of s.held.files name)

-- after a start of this name that is Ok, or that isn't
abbrev pub after_start : MemShelfState → List ℕ → Bool → MemShelfState
after_start s name true =
    record s { held = with_reading s.held (file_of s.held.files name); calls = raised s.calls }
after_start s name false =
    with_fault (record s { held = with_reading s.held None; calls = raised s.calls }) (place_of s.held.files name)

-- the place of the started file
abbrev pub started_place : MemShelfState → Option ℕ
started_place s = option_and_then (λ f. place_of s.held.files f.name) s.held.reading

-- how many bytes a read gives into a buffer of this length
abbrev pub piece_len : MemShelfState → ℕ → ℕ
piece_len s room = min s.piece (min room (length (rest_of s.held)))

-- after a read of so many bytes, or after one that failed
abbrev pub after_read : MemShelfState → ℕ → MemShelfState
after_read s n = record s { held = after_piece s.held n; calls = raised s.calls }

abbrev pub after_failed_read : MemShelfState → MemShelfState
after_failed_read s = with_fault (record s { calls = raised s.calls }) (started_place s)
