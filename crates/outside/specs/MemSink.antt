-- A sink in memory that fails as it is told.
use Rattle.std.specs.Prelude.{◌==◌, ℕ, ◌-◌, Bool, ◌||◌, nat_lt, min, List, ◌++◌, length, take, Option, option_map, is_some, unwrap_or, find, if◌then◌else◌}
use Rattle.outside.specs.Outside.{raised}

-- what was written, how many bytes fit, the puts that are to fail with how many bytes each takes,
-- how many puts were made, and how many failed
pub record MemSinkState : Type 0 where
  pub written : List ℕ
  pub room : ℕ
  pub fails : List (ℕ × ℕ)
  pub calls : ℕ
  pub faults : ℕ

-- how many bytes the next put is to take before it fails, where it is one that is to fail
abbrev pub planned : MemSinkState → Option ℕ
planned s = option_map (λ f. f.1) (find (λ f. f.0 == s.calls) s.fails)

-- how many bytes still fit
abbrev pub free : MemSinkState → ℕ
free s = s.room - length s.written

-- how many bytes the next put takes of so many
abbrev pub taken : MemSinkState → ℕ → ℕ
taken s count = min (unwrap_or (planned s) count) (min count (free s))

-- whether the next put fails with so many bytes
abbrev pub fails_at : MemSinkState → ℕ → Bool
fails_at s count = is_some (planned s) || nat_lt (free s) count

-- after a put of these bytes
abbrev pub after_put : MemSinkState → List ℕ → MemSinkState
after_put s bytes = record s {
  written = s.written ++ take (taken s (length bytes)) bytes;
  calls = raised s.calls;
  faults = if fails_at s (length bytes) then raised s.faults else s.faults;
}
