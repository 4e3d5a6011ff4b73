use Rattle.std.proofs.Common.{◌∙◌}
use Rattle.std.proofs.lemmas.Result.{IfOk-weaker}
use Rattle.list_fusion.specs.Pipes.{type_of, elements}
use Rattle.script_run.proofs.ReductionLemmas.{scanned-is}
use Rattle.script_run.proofs.reductions.scanned_with.Goals as goal

pub returns-clause-ty : goal.returns-clause-ty
returns-clause-ty g c = IfOk-weaker c.scan.result _ _ (λ x e. rw e c.requires.operator.typed) c.scan.ensures.ty

pub returns-clause-items : goal.returns-clause-items
returns-clause-items g c =
    let op = c.args.op.now in
    IfOk-weaker c.scan.result _ _
    (λ x e. e ∙ scanned-is (g.M.Lifted.takes op) (g.M.Lifted.gives op) (g.M.Lifted.finished op) (g.M.Lifted.lifted op) (g.M.Semi.combined op) c.args.name (type_of c.args.pipe.now) c.requires.operator (elements c.args.pipe.now) c.requires.admitted)
    c.scan.ensures.items
