use Rattle.std.proofs.Common.{◌≡◌, ap, length, map, take, sym, ◌∙◌, subst, true}
use Rattle.op_laws.specs.Admits.{Admits}
use Rattle.scalar_expr.specs.Columns.{is_narrow, room_of}
use Rattle.scalar_expr.specs.Functions.{Function}
use Rattle.scalar_expr.specs.Lanes.{row_at, numbers_in}
use Rattle.scalar_expr.specs.Steps.{built, run_in, numbers}
use Rattle.std.specs.Int.{w64}
use Rattle.scalar_expr.specs.Values.{values_of}
use Rattle.scalar_expr.proofs.Runs.{safe_on, height_is, narrow_gives, fits_gives}
use Rattle.scalar_expr.proofs.function.Typed.eval_narrow.Goals as goal

pub run_narrow-requires-clause-safe : goal.run_narrow-requires-clause-safe
run_narrow-requires-clause-safe c =
    let components = rw (← c.self.view_is) at c.requires.components in
    let room = rw (← c.self.view_is) at c.requires.room in
    rw c.deref.ensures.value (safe_on c.self.inside.takes c.self.inside.gives c.self.inside.room c.self.inside.narrow c.self.inside.steps.items c.self.invariant (length c.args.columns.now) (length c.args.stack.now) components room)

pub returns-clause-values : goal.returns-clause-values
returns-clause-values c = λ j h.
    let e = row_at (map numbers_in c.args.columns.now) j in
    let stays = rw (← c.self.view_is) at c.requires.narrow in
    let rows = rw c.deref.ensures.value at c.run_narrow.ensures.rows j h in
    let top = height_is c.self.inside.takes c.self.inside.gives c.self.inside.room c.self.inside.narrow c.self.inside.steps.items c.self.invariant c.run_narrow.result (rw c.deref.ensures.value at c.run_narrow.ensures.height) in
    subst (λ (f : Function). row_at (take (length f.gives) c.run_narrow.new.stack) j ≡ values_of f.scalars e) c.self.view_is
    (ap (λ n. row_at (take n c.run_narrow.new.stack) j) (sym top) ∙ rows ∙ narrow_gives c.self.inside.takes c.self.inside.gives c.self.inside.room c.self.inside.narrow c.self.inside.steps.items c.self.invariant e stays)

pub returns-clause-fits : goal.returns-clause-fits
returns-clause-fits c = λ j h admitted.
    let e = row_at (map numbers_in c.args.columns.now) j in
    let at = rw (← c.self.view_is) at admitted in
    let stays = rw (← c.self.view_is) at c.requires.narrow in
    let rows = rw c.deref.ensures.value at c.run_narrow.ensures.rows j h in
    let top = height_is c.self.inside.takes c.self.inside.gives c.self.inside.room c.self.inside.narrow c.self.inside.steps.items c.self.invariant c.run_narrow.result (rw c.deref.ensures.value at c.run_narrow.ensures.height) in
    let same = ap (λ n. row_at (take n c.run_narrow.new.stack) j) (sym top) ∙ rows ∙ narrow_gives c.self.inside.takes c.self.inside.gives c.self.inside.room c.self.inside.narrow c.self.inside.steps.items c.self.invariant e stays in
    subst (λ (f : Function). Admits f.gives (row_at (take (length f.gives) c.run_narrow.new.stack) j)) c.self.view_is (subst (Admits c.self.inside.gives) (sym same) (fits_gives c.self.inside.takes c.self.inside.gives c.self.inside.room c.self.inside.narrow c.self.inside.steps.items c.self.invariant e at))
