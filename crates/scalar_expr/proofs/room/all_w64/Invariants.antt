use Rattle.std.proofs.Common.{◌≡◌, drop}
use Rattle.std.specs.List.{list_all}
use Rattle.scalar_expr.specs.Columns.{is_w64}
use Rattle.scalar_expr.proofs.room.all_w64.Given as goal

abbrev pub invariant-loop-k : goal.invariant-loop-k
invariant-loop-k l = list_all is_w64 (drop l.k l.ty) ≡ list_all is_w64 l.ty
