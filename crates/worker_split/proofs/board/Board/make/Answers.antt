use Rattle.std.proofs.Common.{rules, ◌≡◌, ◌<◌, ◌+◌, [], sym, ap, ◌∙◌, subst, arith, length, get_or, ℕ, false}
use Rattle.atomic_table.specs.Table.{Splits, Me}
use Rattle.worker_split.specs.declared.rule.View.{View}
use Rattle.worker_split.specs.Rule.{IsDealt, more_made, next_view, drawer_of}
use Rattle.worker_split.specs.Passes.{Drawer, Deal}
use Rattle.worker_split.proofs.FreshPass.{fresh_pass}
use Rattle.worker_split.proofs.RuleLemmas.{split_allowed}
use Rattle.worker_split.proofs.EachElement.{each_push}
use Rattle.worker_split.proofs.board.Board.make.Goals as goal

pub split_seat-seat-requires : goal.split_seat-seat-requires
split_seat-seat-requires c = (
  search rules,
  search rules,
  subst (λ v. Splits (IsDealt c.in_ok-table.table.shared.key) c.loop-i.first.id v (record v { role = more_made v.role }) (next_view v))
      (sym (ap (λ m. m.0) c.loop-i.invariant.me)) (split_allowed _ _ _ _ _ (omega arith)),
)

pub loop-i-preserved : goal.loop-i-preserved
loop-i-preserved c =
    let board : Deal = record { table = c.in_ok-table.table.shared.table_id; n = c.args.n; passes = c.args.workers } in
    let P = λ (j : ℕ) (p : Drawer). p ≡ fresh_pass board (j + 1) in
    let kept = c.loop-i.invariant in let cut = c.split_seat-seat.ensures in
    let table = cut.3 ∙ kept.table in
    let me = cut.4 ∙ ap (λ (m : Me (Unit {0}) View). (next_view m.0, [])) kept.me in
    let made_is = (λ k. drawer_of (table k) (me k).0 false) ∙ ap (fresh_pass board) (sym kept.count) in
    record {
      table = search rules;
      me = search rules;
      count = search rules;
      each = subst (λ xs. (j : ℕ) (x : Drawer) → j < length xs → P j (get_or xs j x)) (sym c.in_ok-push.ensures.items)
          (each_push P c.loop-i.passes.items _ kept.each made_is);
    }
