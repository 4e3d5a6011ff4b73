use Rattle.std.proofs.Common.{◌≡◌, ◌<◌, ◌∷◌, [], ◌++◌, ap, ◌∙◌, arith}
use Rattle.worker_split.specs.Items.{Within}
use Rattle.worker_split.proofs.CrewLemmas.{above, above-le, above_push}
use Rattle.worker_split.proofs.ItemLemmas.{filled_push}
use Rattle.worker_split.proofs.crew.work.Goals as goal

pub loop-ticket-smaller : goal.loop-ticket-smaller
loop-ticket-smaller g c =
    let old = c.loop-ticket.worker.pass.tickets in let t = c.in-Some.ticket in
    let before = above-le old t c.in-Some.ensures.rising in let after = above_push old t in
    let e : above c.draw.new.pass.tickets ≡ above (old ++ t ∷ []) = ap above c.in-Some.ensures.drawn in
    let below : t < c.args.board.now.n = c.in-Some.ensures.below in
    omega arith

pub loop-ticket-preserved : goal.loop-ticket-preserved
loop-ticket-preserved g c =
    let kept = c.loop-ticket.invariant in
    let small : c.in-Some.ticket < g.T.Task.count c.args.task.now = let below = c.in-Some.ensures.below in let size = c.requires.size in omega arith in
    let filled = filled_push (Within (g.T.Task.count c.args.task.now) (g.T.Task.gives c.args.task.now)) c.loop-ticket.items.items c.push.new.self.items
    c.loop-ticket.worker.pass.tickets c.draw.new.pass.tickets c.in-Some.ticket c.in_ok-item.item
    c.in_ok-push.ensures.items c.in-Some.ensures.drawn kept.tickets kept.given (small, c.in_ok-item.ensures) in
    record {
      on_board = c.in-Some.ensures.pass.0 ∙ kept.on_board;
      number = c.in-Some.ensures.pass.1 ∙ kept.number;
      tickets = filled.0;
      given = filled.1;
    }
