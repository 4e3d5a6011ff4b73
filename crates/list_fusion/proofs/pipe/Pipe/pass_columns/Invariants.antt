use Rattle.std.proofs.Common.{◌≤◌, ℤ, List, length, drop}
use Rattle.std.specs.List.{AllByRecursion}
use Rattle.list_fusion.specs.Stages.{staged}
use Rattle.list_fusion.specs.Pipes.{type_of}
use Rattle.list_fusion.specs.Columnar.{Holds, GoesByColumns, ArePassing}
use Rattle.list_fusion.proofs.pipe.Pipe.pass_columns.Given as goal

abbrev pub invariant-loop-stage : goal.invariant-loop-stage
invariant-loop-stage l = record {
  fewer : l.left ≤ l.count;
  goes : AllByRecursion GoesByColumns (drop l.stage-index l.stage-items);
  holds : (es : List (List ℤ)) → Holds l.fn.columns (length l.self.head.ty) l.count es
      → ArePassing (drop l.stage-index l.stage-items) (type_of l.self) l.columns l.left (staged l.self.stages es);
}
