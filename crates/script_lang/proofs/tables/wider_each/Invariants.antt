use Rattle.std.proofs.Common.{◌≡◌, length, take}
use Rattle.script_lang.specs.Tables.{wider_each}
use Rattle.script_lang.proofs.tables.wider_each.Given as goal

-- the components so far
abbrev pub invariant-loop-i : goal.invariant-loop-i
invariant-loop-i l = record {
  so_far : l.ty ≡ wider_each (take l.i l.a) (take l.i l.b);
  few : length l.ty ≡ l.i;
}
