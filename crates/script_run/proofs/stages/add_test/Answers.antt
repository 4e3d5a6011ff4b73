use Rattle.std.proofs.lemmas.Result.{IfOk-weaker}
use Rattle.list_fusion.specs.declared.stage.Stage.TheVariants.{Keep}
use Rattle.script_run.proofs.PipeLemmas.{staged_type, on_both, tested_admitted}
use Rattle.script_run.proofs.stages.add_test.Goals as goal

pub returns-clause-ty : goal.returns-clause-ty
returns-clause-ty c = IfOk-weaker c.keep.result _ _ (λ u e. staged_type c.args.pipe.now c.keep.new.self (Keep c.in_ok-f.f) e) c.keep.ensures.ok

pub returns-clause-admitted : goal.returns-clause-admitted
returns-clause-admitted c = on_both c.keep.result (tested_admitted c.args.pipe.now c.keep.new.self c.in_ok-f.f c.requires.admitted) c.keep.ensures.ok c.keep.ensures.elements
