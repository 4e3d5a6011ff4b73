use Rattle.std.proofs.Common.{rules, sym, ap, ◌∙◌}
use Rattle.worker_split.specs.Rule.{live_role}
use Rattle.worker_split.proofs.RuleLemmas.{draw_allowed, role_at-live}
use Rattle.worker_split.proofs.board.Board.draw.Goals as goal

pub fetch_add-found-requires : goal.fetch_add-found-requires
fetch_add-found-requires c = (
  ap (λ d. d.board.table) c.pass.view_is ∙ (ap (λ d. d.table) c.requires ∙ sym (ap (λ d. d.table) c.self.view_is)),
  search rules,
  draw_allowed _ _ _ _ (c.pass.invariant.spent ∙ c.if-pass.false) (ap live_role c.pass.invariant.role ∙ role_at-live _ _),
)
