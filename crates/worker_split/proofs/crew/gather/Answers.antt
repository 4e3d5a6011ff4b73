use Rattle.std.proofs.Common.{◌≡◌, suc, List, ◌∷◌, ◌++◌, sym, subst, ap, ◌∙◌, arith}
use Rattle.std.specs.Vec.Iter.{into_iter_items}
use native.Mathlib.Decide.{dec_lt}
use Rattle.worker_split.specs.declared.crew.Worker.{Worker}
use Rattle.worker_split.specs.Dealing.{times}
use Rattle.worker_split.specs.Passes.{Drawer}
use Rattle.worker_split.specs.Items.{Within, IsFilledAt, tickets_of}
use Rattle.worker_split.specs.Crew.{AllFilled, passes_of}
use Rattle.worker_split.proofs.CrewLemmas.{append-pushed, tickets_at-pushed}
use Rattle.worker_split.proofs.crew.gather.Goals as goal

pub loop-worker-preserved : goal.loop-worker-preserved
loop-worker-preserved g c =
    let kept = c.loop-worker.invariant in let gives = g.T.Task.gives c.args.task.now in let next = c.in-Some.ensures.steps.0 in
    let left = into_iter_items c.next.new.self in
    let all : AllFilled (Within (g.T.Task.count c.args.task.now) gives) (c.in-Some.worker ∷ left) =
    subst (AllFilled (Within (g.T.Task.count c.args.task.now) gives)) next kept.filled in
    let pass : Drawer = c.in-Some.worker.pass in let pushed = c.in_ok-push.ensures.items in
    record {
      length = c.place.ensures.length ∙ kept.length;
      passes = append-pushed c.loop-worker.passes.items c.push.new.self.items (passes_of left) pass pushed
          ∙ (ap (λ (ws : List (Worker g.row.X.Denot)). c.loop-worker.passes.items ++ passes_of ws) (sym next) ∙ kept.passes);
      filled = λ i w l. all (suc i) w (omega arith);
      placed = λ t some.
          let more = tickets_at-pushed t c.loop-worker.passes.items c.push.new.self.items pass pushed in
          let same : times t (tickets_of c.in-Some.worker.items.items) ≡ times t pass.tickets = ap (times t) (all 0 c.in-Some.worker (omega arith)).tickets in
          elim (dec_lt 0 (times t pass.tickets)) as (λ _. IsFilledAt gives c.place.new.slots.items t) [
            | yes here ↦ c.place.ensures.placed t (omega arith)
            | no not ↦ c.place.ensures.kept t (kept.placed t (omega arith))
          ];
    }
