use Rattle.std.proofs.Common.{◌≡◌, true, take}
use Rattle.std.specs.List.{list_all}
use Rattle.scalar_expr.specs.Columns.{is_w64}
use Rattle.list_fusion.proofs.head.all_w64.Given as goal

abbrev pub invariant-loop-i : goal.invariant-loop-i
invariant-loop-i l = list_all is_w64 (take l.i l.ty) ≡ true
