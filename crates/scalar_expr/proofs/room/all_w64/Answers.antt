use Rattle.std.proofs.Common.{◌∙◌, add-one, ap, Some}
use Rattle.scalar_expr.proofs.Rooms.{more_w64}
use Rattle.scalar_expr.proofs.room.all_w64.Goals as goal

pub loop-k-preserved : goal.loop-k-preserved
loop-k-preserved c = rw add-one (more_w64 c.args.ty c.loop-k.k (c.at.ensures ∙ ap (λ w. Some w) c.in-W64.is) ∙ c.loop-k.invariant)
