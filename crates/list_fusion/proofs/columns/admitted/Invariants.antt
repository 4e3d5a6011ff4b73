use Rattle.std.proofs.Common.{take}
use Rattle.std.specs.List.{All}
use Rattle.op_laws.specs.Widths.{FitsWidth}
use Rattle.op_laws.specs.declared.width.Width.TheVariants.{W64}
use Rattle.list_fusion.proofs.columns.admitted.Given as goal

abbrev pub invariant-loop-number : goal.invariant-loop-number
invariant-loop-number l = All (FitsWidth W64) (take l.number-index l.numbers)
