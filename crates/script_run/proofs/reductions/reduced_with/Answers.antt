use Rattle.std.proofs.Common.{◌∙◌}
use Rattle.std.proofs.lemmas.Result.{IfOk-weaker}
use Rattle.list_fusion.specs.Pipes.{type_of, elements}
use Rattle.script_run.proofs.ReductionLemmas.{reduced-is}
use Rattle.script_run.proofs.reductions.reduced_with.Goals as goal

pub returns : goal.returns
returns g c =
    let op = c.args.op.now in
    IfOk-weaker c.reduce.result _ _
    (λ t e. e ∙ reduced-is (g.M.Lifted.takes op) (g.M.Lifted.gives op) (g.M.Lifted.finished op) (g.M.Lifted.lifted op) (g.M.Semi.combined op) c.args.name (type_of c.args.pipe.now) (g.M.Monoid.nothing op) c.requires.operator (elements c.args.pipe.now) c.requires.admitted)
    c.reduce.ensures
