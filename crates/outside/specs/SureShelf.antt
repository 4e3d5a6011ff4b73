-- A shelf in memory that fails only for a name that it doesn't have.
use Rattle.std.specs.Prelude.{ℕ, List, is_some, if◌then◌else◌}
use Rattle.outside.specs.Outside.{raised}
use Rattle.outside.specs.Files.{Held, file_of, with_reading}

-- its files, and how often a start failed
pub record SureShelfState : Type 0 where
  pub held : Held
  pub missed : ℕ

-- how often calls for this name have failed
abbrev pub faults_of : SureShelfState → List ℕ → ℕ
faults_of s name = if is_some (file_of s.held.files name) then 0 else s.missed

-- after a start of this name
abbrev pub after_start : SureShelfState → List ℕ → SureShelfState
after_start s name =
    record { held = with_reading s.held (file_of s.held.files name); missed = if is_some (file_of s.held.files name) then s.missed else raised s.missed }
