use Rattle.std.proofs.Common.{◌≡◌, Ok, ap, sym, ◌∙◌}
use Rattle.std.proofs.lemmas.Result.{IfOk-weaker}
use Rattle.op_laws.specs.declared.width.Width.{Width}
use Rattle.std.specs.Prelude.{List}
use Rattle.scalar_expr.specs.Typing.{typed}
use Rattle.scalar_expr.specs.Views.{scalars_of}
use Rattle.list_fusion.specs.declared.stage.Stage.TheVariants.{Map}
use Rattle.list_fusion.specs.Pipes.{type_of}
use Rattle.script_run.proofs.PipeLemmas.{staged_type, on_both, mapped_admitted}
use Rattle.script_run.proofs.stages.add_map.Goals as goal

pub returns-clause-ty : goal.returns-clause-ty
returns-clause-ty c =
    let f = c.in_ok-f.f in
    let gives : typed (type_of c.args.pipe.now) (scalars_of c.args.f.now) ≡ Ok f.gives = rw c.ty.ensures at c.in_ok-f.ensures.gives in
    IfOk-weaker c.map.result _ _ (λ u e. gives ∙ ap (λ (w : List Width). Ok w) (sym (staged_type c.args.pipe.now c.map.new.self (Map f) e))) c.map.ensures.ok

pub returns-clause-admitted : goal.returns-clause-admitted
returns-clause-admitted c =
    let f = c.in_ok-f.f in
    let takes : f.takes ≡ type_of c.args.pipe.now = c.in_ok-f.ensures.takes ∙ c.ty.ensures in
    on_both c.map.result (mapped_admitted c.args.pipe.now c.map.new.self f takes c.admitted.ensures c.requires.admitted) c.map.ensures.ok c.map.ensures.elements
