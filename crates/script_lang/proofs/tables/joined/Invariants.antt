use Rattle.std.proofs.Common.{◌≡◌, ◌++◌, take}
use Rattle.script_lang.proofs.tables.joined.Given as goal

-- the second's components so far
abbrev pub invariant-loop-i : goal.invariant-loop-i
invariant-loop-i l = l.ty ≡ l.fn.a ++ take l.i l.b
