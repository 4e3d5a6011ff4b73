use Rattle.std.proofs.Common.{rules, ◌≡◌, ◌<◌, ◌+◌, ◌∷◌, [], ◌++◌, sym, ap, ◌∙◌, subst, arith, length, get_or, ℕ, List, length-append, refl}
use Rattle.std.proofs.lemmas.List.Sums.{sum_by-append}
use Rattle.worker_split.specs.Dealing.{times}
use Rattle.worker_split.specs.Rule.{live_role, first, made, taken}
use Rattle.worker_split.specs.Passes.{Drawer, tickets_at}
use Rattle.worker_split.proofs.DealingLemmas.{times-append}
use Rattle.worker_split.proofs.EachElement.{each_init}
use Rattle.worker_split.proofs.RuleLemmas.{join_allowed, all_dealt, role_at-live, other_not_first, more_taken-takes}
use Rattle.worker_split.proofs.Waiting.{Waits}
use Rattle.worker_split.proofs.board.Board.close.Goals as goal
use Rattle.worker_split.proofs.board.Board.close.Goals.{In-Some}

no_tickets : (t : ℕ) (xs : List Drawer) → length xs ≡ 0 → tickets_at t xs ≡ 0
no_tickets t [] e = refl
no_tickets t (x ∷ xs) e = absurd (omega arith)

-- the last pass waits, and so does each before it
waiting : (c : In-Some)
    → ((i : ℕ) (x : Drawer) → i < length c.pop.new.self.items → Waits c.args.self i (get_or c.pop.new.self.items i x))
    × Waits c.args.self (length c.pop.new.self.items) c.in-Some.pass
waiting c = each_init (Waits c.args.self) c.pop.new.self.items c.in-Some.pass
    (subst (λ xs. (i : ℕ) (x : Drawer) → i < length xs → Waits c.args.self i (get_or xs i x)) c.in-Some.ensures.items c.loop-pass.invariant.waiting)

pub join_seat-requires : goal.join_seat-requires
join_seat-requires c =
    let kept = c.loop-pass.invariant in let mine = (waiting (goal.at.join_seat-requires c).In-Some).1 in (
      kept.table,
      ap (λ d. d.board.table) c.pass.view_is ∙ (ap (λ d. d.table) mine.on_board ∙ sym (ap (λ d. d.table) c.self.view_is)),
      c.pass.invariant.bare,
      search rules,
      join_allowed _ _ _ _ _ kept.is_first kept.spent
          (ap live_role c.pass.invariant.role ∙ role_at-live _ _)
          (other_not_first _ _ (ap (λ d. d.number) c.pass.view_is ∙ mine.number))
          (c.pass.invariant.spent ∙ (ap (λ d. d.spent) c.pass.view_is ∙ mine.spent)),
    )

pub loop-pass-preserved : goal.loop-pass-preserved
loop-pass-preserved c =
    let kept = c.loop-pass.invariant in let rest = (waiting (goal.at.loop-pass-preserved c).In-Some).0 in
    let now = c.join_seat.ensures in let roles = more_taken-takes c.loop-pass.first.me.0.role kept.is_first in
    let longer : length c.loop-pass.passes.items ≡ length c.pop.new.self.items + 1 = ap length c.in-Some.ensures.items ∙ simp length-append (omega arith) in
    let took : taken c.join_seat.new.seat.me.0 ≡ taken c.loop-pass.first.me.0 + 1 = ap (λ m. taken m.0) now.2 ∙ roles.taken in
    record {
      table = now.0 ∙ kept.table;
      bare = ap (λ m. m.1) now.2 ∙ kept.bare;
      is_first = ap (λ m. first m.0) now.2 ∙ roles.first;
      spent = ap (λ m. m.0.spent) now.2 ∙ kept.spent;
      made = ap (λ m. made m.0) now.2 ∙ (roles.made ∙ kept.made);
      taken = (let e = kept.taken in omega arith);
      tickets = λ t.
          let old = kept.tickets t in
          let joined : times t c.join_seat.new.seat.me.0.tickets ≡ times t (c.loop-pass.first.me.0.tickets ++ c.pass.inside.seat.me.0.tickets) = ap (λ m. times t m.0.tickets) now.2 in
          let apart = times-append t c.loop-pass.first.me.0.tickets c.pass.inside.seat.me.0.tickets in
          let popped : tickets_at t c.loop-pass.passes.items ≡ tickets_at t (c.pop.new.self.items ++ c.in-Some.pass ∷ []) = ap (tickets_at t) c.in-Some.ensures.items in
          let last = sum_by-append (λ (p : Drawer). times t p.tickets) c.pop.new.self.items (c.in-Some.pass ∷ []) in
          let same : times t c.pass.inside.seat.me.0.tickets ≡ times t c.in-Some.pass.tickets = ap (λ d. times t d.tickets) c.pass.view_is in
          omega arith;
      waiting = rest;
    }

pub free-requires : goal.free-requires
free-requires c = λ k h. let slots = c.close_with.ensures.counts.1 in let none = c.self.invariant.slots in absurd (omega arith)

pub returns : goal.returns
returns c =
    let kept = c.loop-pass.invariant in let final = c.close_with.ensures.values.2 in
    let none_left : length c.loop-pass.passes.items ≡ 0 = search rules in
    let n : c.self.inside.table.shared.key.n ≡ c.args.self.n = ap (λ z. z.n) c.self.invariant.key ∙ ap (λ d. d.n) c.self.view_is in
    let each = λ (t : ℕ). all_dealt c.self.inside.table.shared.key _ c.loop-pass.first.me.0 final.0 final.1 kept.is_first kept.spent (let a = kept.made in let b = kept.taken in omega arith) t in
    record {
      once = λ t l. let all = kept.tickets t in let none = no_tickets t c.loop-pass.passes.items none_left in let here = (each t).0 in omega arith;
      no_other = λ t l. let all = kept.tickets t in let none = no_tickets t c.loop-pass.passes.items none_left in let here = (each t).1 in omega arith;
    }
