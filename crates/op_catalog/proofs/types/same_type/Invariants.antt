use Rattle.std.proofs.Common.{◌≡◌, ℕ, ◌<◌, get_or}
use Rattle.op_laws.specs.declared.width.Width.TheVariants.{W64}
use Rattle.op_catalog.proofs.types.same_type.Given as goal

abbrev pub invariant-loop-i : goal.invariant-loop-i
invariant-loop-i l = (k : ℕ) → k < l.i → get_or l.a k W64 ≡ get_or l.b k W64
