-- How a sink in memory lies, and what keeps in it. No public clause cites this file.
use Rattle.std.specs.Prelude.{◌≤◌, vec_len, vec_capacity}
use Rattle.outside.specs.Outside.{greatest_count}
use Rattle.outside.specs.MemSink.{MemSinkState}
use Rattle.outside.specs.declared.mem_sink.MemSink.TheInside.{Inside}

abbrev pub state_of : Inside → MemSinkState
state_of inside = record {
  written = inside.bytes.items;
  room = inside.room;
  fails = inside.fails.items;
  calls = inside.calls;
  faults = inside.faults;
}

-- what was written is within the room, and the room is reserved
pub record IsKept (inside : Inside) : Type 0 where
  pub within : vec_len inside.bytes ≤ inside.room
  pub reserved : inside.room ≤ vec_capacity inside.bytes
  pub capped : inside.faults ≤ greatest_count
