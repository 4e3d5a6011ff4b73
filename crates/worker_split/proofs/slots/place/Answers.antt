use Rattle.std.proofs.Common.{◌≡◌, ◌<◌, ◌≤◌, ℕ, List, ◌∷◌, length, set, subst, ap, ◌∙◌, arith, Some, length-set}
use Rattle.std.specs.Vec.Iter.{into_iter_items}
use Rattle.worker_split.specs.Dealing.{times}
use Rattle.worker_split.specs.Items.{AllGiven, Within, IsFilledAt, KeepsFilled, tickets_of}
use Rattle.worker_split.proofs.ItemLemmas.{place_one}
use Rattle.worker_split.proofs.slots.place.Goals as goal
use Rattle.worker_split.proofs.slots.place.Goals.{In-Some}
use Rattle.worker_split.proofs.slots.place.Given.{Over}

-- at an item that comes next
module _ (g : Over) (c : In-Some g) where
  abbrev gives : ℕ → g.row.X.Denot → Type 0
  gives = g.T.Task.gives c.args._task.now

  abbrev left : List (ℕ × g.row.X.Denot)
  left = into_iter_items c.next.new.self

  given : AllGiven (Within (g.T.Task.count c.args._task.now) gives) ((c.in-Some.ticket, c.in-Some.item) ∷ left)
  given = subst (AllGiven (Within (g.T.Task.count c.args._task.now) gives)) c.in-Some.ensures.steps.0 c.loop-ticket.invariant.given

  inside : c.in-Some.ticket < length c.loop-ticket.slots.items
  inside = let h = given.0.0 in let a = c.loop-ticket.invariant.length in let b = c.requires.slots in omega arith

  placed : KeepsFilled gives c.args.slots.now.items (set c.loop-ticket.slots.items c.in-Some.ticket (Some c.in-Some.item))
      × ((t : ℕ) → times t (tickets_of left) ≡ 0 → 1 ≤ times t (tickets_of c.args.items.items) → IsFilledAt gives (set c.loop-ticket.slots.items c.in-Some.ticket (Some c.in-Some.item)) t)
  placed = place_one gives c.args.slots.now.items c.loop-ticket.slots.items (tickets_of c.args.items.items) left c.in-Some.ticket c.in-Some.item inside given.0.1 c.loop-ticket.invariant.kept
      (λ t none some. c.loop-ticket.invariant.placed t (ap (λ (ps : List (ℕ × g.row.X.Denot)). times t (tickets_of ps)) c.in-Some.ensures.steps.0 ∙ none) some)

pub loop-ticket-preserved-in-Some : goal.loop-ticket-preserved-in-Some
loop-ticket-preserved-in-Some g c = let here = (goal.at.loop-ticket-preserved-in-Some g c).In-Some in record {
  length = length-set _ _ _ ∙ c.loop-ticket.invariant.length;
  given = (given g here).1;
  kept = (placed g here).0;
  placed = (placed g here).1;
}

pub loop-ticket-preserved : goal.loop-ticket-preserved
loop-ticket-preserved g c = let here = (goal.at.loop-ticket-preserved g c).In-Some in record {
  length = length-set _ _ _ ∙ c.loop-ticket.invariant.length;
  given = (given g here).1;
  kept = (placed g here).0;
  placed = (placed g here).1;
}
