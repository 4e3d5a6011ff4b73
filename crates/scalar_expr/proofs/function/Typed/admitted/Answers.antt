use Rattle.std.proofs.Common.{◌≡◌, subst}
use Rattle.op_laws.specs.Admits.{Admits}
use Rattle.scalar_expr.specs.Functions.{Function}
use Rattle.scalar_expr.specs.Values.{values_of}
use Rattle.scalar_expr.proofs.Runs.{fits_gives}
use Rattle.scalar_expr.proofs.function.Typed.admitted.Goals as goal

pub returns : goal.returns
returns c = λ e admitted.
    let at = rw (← c.self.view_is) at admitted in
    subst (λ (f : Function). Admits f.gives (values_of f.scalars e)) c.self.view_is (fits_gives c.self.inside.takes c.self.inside.gives c.self.inside.room c.self.inside.narrow c.self.inside.steps.items c.self.invariant e at)
