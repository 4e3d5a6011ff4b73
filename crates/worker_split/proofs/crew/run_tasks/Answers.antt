use Rattle.std.proofs.Common.{◌≡◌, ℕ, List, ◌++◌, length, get_or, take, drop, sym, subst, ap, ◌∙◌, arith}
use Rattle.std.proofs.lemmas.List.FromFn.{fill_by_all}
use Rattle.worker_split.specs.declared.crew.Worker.{Worker}
use Rattle.worker_split.specs.Passes.{ArePassesOf, AllSpent, tickets_at}
use Rattle.worker_split.specs.Items.{Within}
use Rattle.worker_split.specs.Crew.{AllIdle, AllFilled, AllFinished, passes_of}
use Rattle.worker_split.proofs.CrewLemmas.{all_filled, all_spent, as_many, passes_stay, written, if_ok, if_ok_both}
use Rattle.worker_split.proofs.crew.run_tasks.Goals as goal
use Rattle.worker_split.proofs.crew.run_tasks.Goals.{In_ok-run_workers}
use Rattle.worker_split.proofs.crew.run_tasks.Given.{Over}

-- after the workers have run
module _ (g : Over) (c : In_ok-run_workers g) where
  abbrev gives : ℕ → g.row.T-Out.Denot → Type 0
  gives = Within (g.T.Task.count c.args.task.now) (g.T.Task.gives c.args.task.now)

  done : AllFinished gives c.in_ok-board.board c.in_ok-board.crew.items c.run_workers.new.workers
  done = subst (λ (ws : List (Worker g.row.T-Out.Denot)). AllFinished gives c.in_ok-board.board ws c.run_workers.new.workers) c.as_mut_slice.ensures.value c.in_ok-run_workers.ensures

  -- the crew as a `Vec`
  abbrev crew : List (Worker g.row.T-Out.Denot)
  crew = take c.in_ok-board.crew.len (c.run_workers.new.workers ++ drop (length c.run_workers.new.workers) c.in_ok-board.crew.items)

  crew_is : crew ≡ c.run_workers.new.workers
  crew_is = written c.in_ok-board.crew.len c.run_workers.new.workers _ (c.in_ok-board.crew.ok.0 ∙ sym (as_many gives c.in_ok-board.board c.in_ok-board.crew.items c.run_workers.new.workers done))

pub run_workers-requires-clause-idle : goal.run_workers-requires-clause-idle
run_workers-requires-clause-idle g c κs within =
    subst (λ (ws : List (Worker g.row.T-Out.Denot)). AllIdle c.in_ok-board.board ws) (sym c.as_mut_slice.ensures.value)
    c.in_ok-board.ensures.idle

pub gather-requires-clause-filled : goal.gather-requires-clause-filled
gather-requires-clause-filled g c κs within =
    let at = (goal.at.gather-requires-clause-filled g c).In_ok-run_workers in
    subst (AllFilled (gives g at)) (sym (crew_is g at)) (all_filled (gives g at) c.in_ok-board.board c.in_ok-board.crew.items c.run_workers.new.workers (done g at))

pub close-requires-clause-all : goal.close-requires-clause-all
close-requires-clause-all g c =
    let at = (goal.at.close-requires-clause-all g c).In_ok-run_workers in
    let is : c.in_ok-passes.passes.items ≡ passes_of c.run_workers.new.workers = c.in_ok-passes.ensures.passes ∙ ap passes_of (crew_is g at) in
    subst (ArePassesOf c.in_ok-board.board) (sym is) (passes_stay (gives g at) c.in_ok-board.board c.in_ok-board.crew.items c.run_workers.new.workers (done g at) c.in_ok-board.ensures.passes)

pub close-requires-clause-spent : goal.close-requires-clause-spent
close-requires-clause-spent g c =
    let at = (goal.at.close-requires-clause-spent g c).In_ok-run_workers in
    let is : c.in_ok-passes.passes.items ≡ passes_of c.run_workers.new.workers = c.in_ok-passes.ensures.passes ∙ ap passes_of (crew_is g at) in
    subst AllSpent (sym is) (all_spent (gives g at) c.in_ok-board.board c.in_ok-board.crew.items c.run_workers.new.workers (done g at))

pub in_order-requires-after_bounds : goal.in_order-requires-after_bounds
in_order-requires-after_bounds g c κs within = λ t l.
    let e : tickets_at t c.in_ok-passes.passes.items ≡ tickets_at t (passes_of (take c.in_ok-board.crew.len (c.run_workers.new.workers ++ drop (length c.run_workers.new.workers) c.in_ok-board.crew.items))) =
    ap (tickets_at t) c.in_ok-passes.ensures.passes in
    let length_is = c.in_ok-passes.ensures.slots in let slots = c.in_ok-slots.ensures in let board = c.in_ok-board.ensures.tickets in
    let once = c.close.ensures.once t (omega arith) in
    c.in_ok-passes.ensures.placed t (omega arith)

pub returns-clause-each : goal.returns-clause-each
returns-clause-each g c =
    let length_is = c.in_ok-passes.ensures.slots in let slots = c.in_ok-slots.ensures in let count = c.tickets-tickets.ensures in
    if_ok c.in_order.result (λ v each t x l. each t x (omega arith)) c.in_order.ensures.each

pub returns-clause-determined : goal.returns-clause-determined
returns-clause-determined g c = λ f one.
    let n : ℕ = g.T.Task.count c.args.task.now in
    let length_is = c.in_ok-passes.ensures.slots in let slots = c.in_ok-slots.ensures in let count = c.tickets-tickets.ensures in
    if_ok_both c.in_order.result
    (λ v as_long each. fill_by_all f v.items n (f 0) (omega arith)
    (λ t small. one t (get_or v.items t (f 0)) small (each t (f 0) (omega arith))))
    c.in_order.ensures.count c.in_order.ensures.each
