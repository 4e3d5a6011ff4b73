-- How a shelf in memory lies, and what keeps in it. No public clause cites this file.
use Rattle.std.specs.Prelude.{◌≡◌, ℕ, ◌<◌, ◌≤◌, length, slice_index}
use Rattle.outside.specs.Outside.{greatest_count}
use Rattle.outside.specs.MemShelf.{MemShelfState}
use Rattle.outside.specs.declared.mem_shelf.MemShelf.TheInside.{Inside}

abbrev pub state_of : Inside → MemShelfState
state_of inside = record {
  held = inside.held;
  piece = inside.piece;
  fails = inside.fails.items;
  calls = inside.calls;
  counts = inside.counts.items;
  missed = inside.missed;
}

-- a read can give a byte, and each file has its count
pub record IsKept (inside : Inside) : Type 0 where
  pub some_piece : 0 < inside.piece
  pub one_each : length inside.counts.items ≡ length inside.held.files
  pub counts_capped : (place : ℕ) → slice_index inside.counts.items place ≤ greatest_count
  pub missed_capped : inside.missed ≤ greatest_count
