use Rattle.std.proofs.Common.{◌≡◌, drop}
use Rattle.list_fusion.specs.Pipes.{type_of}
use Rattle.list_fusion.specs.Kept.{IsReady}
use Rattle.list_fusion.specs.Through.{through}
use Rattle.list_fusion.proofs.pipe.Pipe.pass.Given as goal

abbrev pub invariant-loop-stage : goal.invariant-loop-stage
invariant-loop-stage l = record {
  ready : IsReady (drop l.stage-index l.stage-items) (type_of l.self) l.e;
  same : through (drop l.stage-index l.stage-items) l.e ≡ through l.self.stages l.fn.e;
}
