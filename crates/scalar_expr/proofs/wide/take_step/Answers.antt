use Rattle.std.proofs.Common.{◌≡◌, ◌<◌, ap, sym, subst, ◌∙◌, map, length, take}
use Rattle.std.specs.Int.{w128}
use Rattle.scalar_expr.specs.Steps.{IsSafe, step_in, numbers}
use Rattle.scalar_expr.specs.Lanes.{row_at, numbers_in}
use Rattle.scalar_expr.proofs.LaneLemmas.{two_taken, three_taken}
use Rattle.scalar_expr.proofs.wide.take_step.Goals as goal

pub returns-in-Two-clause-rows : goal.returns-in-Two-clause-rows
returns-in-Two-clause-rows c = λ j h.
    let s = c.split_at_mut-low in
    let low = s.result.0.now in
    let safe = subst (IsSafe (length c.args.columns.now) (length c.args.stack.now) c.args.top) c.in-Two.is c.requires.safe in
    two_taken w128 (row_at (map numbers_in c.args.columns.now) j) c.args.stack.now low s.result.1.now c.calculate.new.out (length c.args.columns.now) c.in-Two.out c.args.top j
    s.ensures.value s.ensures.front_len safe.1 c.in-Two.op c.in-Two.a c.in-Two.b _ _ safe.2 safe.3
    (c.source_of-x.ensures.value j h low s.ensures.front_len) (c.source_of-y.ensures.value j h low s.ensures.front_len) (c.calculate.ensures.value j h)
    ∙ ap (λ i. step_in (numbers w128 (row_at (map numbers_in c.args.columns.now) j)) i (row_at (take c.args.top c.args.stack.now) j)) (sym c.in-Two.is)

pub returns-in-Cond-clause-rows : goal.returns-in-Cond-clause-rows
returns-in-Cond-clause-rows c = λ j h.
    let s = c.split_at_mut-low-in-Cond in
    let low = s.result.0.now in
    let safe = subst (IsSafe (length c.args.columns.now) (length c.args.stack.now) c.args.top) c.in-Cond.is c.requires.safe in
    three_taken w128 (row_at (map numbers_in c.args.columns.now) j) c.args.stack.now low s.result.1.now c.choose.new.out (length c.args.columns.now) c.in-Cond.out c.args.top j
    s.ensures.value s.ensures.front_len safe.1 c.in-Cond.c c.in-Cond.a c.in-Cond.b _ _ _ safe.2 safe.3 safe.4
    (c.source_of-z.ensures.value j h low s.ensures.front_len) (c.source_of-x-in-Cond.ensures.value j h low s.ensures.front_len) (c.source_of-y-in-Cond.ensures.value j h low s.ensures.front_len)
    (c.choose.ensures.value j h)
    ∙ ap (λ i. step_in (numbers w128 (row_at (map numbers_in c.args.columns.now) j)) i (row_at (take c.args.top c.args.stack.now) j)) (sym c.in-Cond.is)
