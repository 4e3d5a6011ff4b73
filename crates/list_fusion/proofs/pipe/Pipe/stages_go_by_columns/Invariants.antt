use Rattle.std.proofs.Common.{take}
use Rattle.std.specs.List.{AllByRecursion}
use Rattle.list_fusion.specs.Columnar.{GoesByColumns}
use Rattle.list_fusion.proofs.pipe.Pipe.stages_go_by_columns.Given as goal

abbrev pub invariant-loop-stage : goal.invariant-loop-stage
invariant-loop-stage l = AllByRecursion GoesByColumns (take l.stage-index l.stage-items)
