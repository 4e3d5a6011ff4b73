-- The fields of an outlet and what they mean.
use Rattle.std.specs.Prelude.{◌<◌, take}
use Rattle.plain_text.specs.Pending.{Pending, piece_len}
use Rattle.plain_text.specs.declared.outlet.Outlet.TheInside.{Inside}

abbrev pub pending_of : Inside → Pending
pending_of o = record { held = take o.len o.bytes; failed = o.failed }

abbrev pub HasRoom : Inside → Type 0
HasRoom o = o.len < piece_len
