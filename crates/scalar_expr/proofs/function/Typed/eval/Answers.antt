use Rattle.std.proofs.Common.{◌≡◌, ap, sym, ◌∙◌, subst, arith}
use Rattle.op_laws.specs.Admits.{Admits}
use Rattle.scalar_expr.specs.Functions.{Function}
use Rattle.scalar_expr.specs.Values.{values_of}
use Rattle.scalar_expr.proofs.Runs.{compiled_gives, safe_within}
use Rattle.scalar_expr.proofs.function.Typed.eval.Goals as goal

pub run-requires-clause-safe : goal.run-requires-clause-safe
run-requires-clause-safe c =
    let admitted = rw (← c.self.view_is) at c.requires in
    rw c.deref.ensures.value (safe_within c.self.inside.takes c.self.inside.gives c.self.inside.room c.self.inside.narrow c.self.inside.steps.items c.args.t 8 c.self.invariant admitted c.if-self-le8.true)

pub run-requires-clause-height : goal.run-requires-clause-height
run-requires-clause-height c =
    let admitted = rw (← c.self.view_is) at c.requires in
    rw (c.deref.ensures.value, c.len.ensures.value) ((compiled_gives c.self.inside.takes c.self.inside.gives c.self.inside.room c.self.inside.narrow c.self.inside.steps.items c.args.t c.self.invariant admitted).height)

pub returns-then-self-le8-clause-value : goal.returns-then-self-le8-clause-value
returns-then-self-le8-clause-value c =
    let admitted = rw (← c.self.view_is) at c.requires in
    let gives = compiled_gives c.self.inside.takes c.self.inside.gives c.self.inside.room c.self.inside.narrow c.self.inside.steps.items c.args.t c.self.invariant admitted in
    rw c.deref.ensures.value at c.run.ensures ∙ gives.value ∙ ap (λ (f : Function). values_of f.scalars c.args.t) c.self.view_is

pub returns-then-self-le8-clause-fits : goal.returns-then-self-le8-clause-fits
returns-then-self-le8-clause-fits c =
    let admitted = rw (← c.self.view_is) at c.requires in
    let gives = compiled_gives c.self.inside.takes c.self.inside.gives c.self.inside.room c.self.inside.narrow c.self.inside.steps.items c.args.t c.self.invariant admitted in
    let got = rw c.deref.ensures.value at c.run.ensures in
    subst (λ (f : Function). Admits f.gives c.run.result) c.self.view_is (subst (Admits c.self.inside.gives) (sym (got ∙ gives.value)) gives.fits)

pub run-requires-else-self-le8-clause-safe : goal.run-requires-else-self-le8-clause-safe
run-requires-else-self-le8-clause-safe c =
    let admitted = rw (← c.self.view_is) at c.requires in
    rw c.deref-else-self-le8.ensures.value (safe_within c.self.inside.takes c.self.inside.gives c.self.inside.room c.self.inside.narrow c.self.inside.steps.items c.args.t 64 c.self.invariant admitted c.self.invariant.room_within)

pub run-requires-else-self-le8-clause-height : goal.run-requires-else-self-le8-clause-height
run-requires-else-self-le8-clause-height c =
    let admitted = rw (← c.self.view_is) at c.requires in
    rw (c.deref-else-self-le8.ensures.value, c.len-else-self-le8.ensures.value) ((compiled_gives c.self.inside.takes c.self.inside.gives c.self.inside.room c.self.inside.narrow c.self.inside.steps.items c.args.t c.self.invariant admitted).height)

pub returns-else-self-le8-clause-value : goal.returns-else-self-le8-clause-value
returns-else-self-le8-clause-value c =
    let admitted = rw (← c.self.view_is) at c.requires in
    let gives = compiled_gives c.self.inside.takes c.self.inside.gives c.self.inside.room c.self.inside.narrow c.self.inside.steps.items c.args.t c.self.invariant admitted in
    rw c.deref-else-self-le8.ensures.value at c.run-else-self-le8.ensures ∙ gives.value ∙ ap (λ (f : Function). values_of f.scalars c.args.t) c.self.view_is

pub returns-else-self-le8-clause-fits : goal.returns-else-self-le8-clause-fits
returns-else-self-le8-clause-fits c =
    let admitted = rw (← c.self.view_is) at c.requires in
    let gives = compiled_gives c.self.inside.takes c.self.inside.gives c.self.inside.room c.self.inside.narrow c.self.inside.steps.items c.args.t c.self.invariant admitted in
    let got = rw c.deref-else-self-le8.ensures.value at c.run-else-self-le8.ensures in
    subst (λ (f : Function). Admits f.gives c.run-else-self-le8.result) c.self.view_is (subst (Admits c.self.inside.gives) (sym (got ∙ gives.value)) gives.fits)
