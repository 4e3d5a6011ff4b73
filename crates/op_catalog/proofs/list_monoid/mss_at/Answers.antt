use Rattle.std.proofs.Common.{[], ◌∷◌, inl, inr, refl}
use Rattle.op_laws.specs.declared.width.Width.TheVariants.{W64, W96}
use Rattle.op_catalog.specs.declared.list_op.ListOp.TheVariants.{Mss}
use Rattle.op_catalog.specs.Numbers.{numbers_of}
use Rattle.op_catalog.specs.Segments.{best_segment}
use Rattle.op_catalog.proofs.DispatchLemmas.{from_reduces}
use Rattle.op_catalog.proofs.list_monoid.mss_at.Goals as goal

pub returns-in-W64 : goal.returns-in-W64
returns-in-W64 c = rw c.in-W64.ensures (from_reduces Mss (W64 ∷ []) (λ es. best_segment (numbers_of es) ∷ []) (inl (refl, refl)) refl c.new.ensures.reduces (λ es. refl))

pub returns-in-W96 : goal.returns-in-W96
returns-in-W96 c = rw c.in-W96.ensures (from_reduces Mss (W96 ∷ []) (λ es. best_segment (numbers_of es) ∷ []) (inr (refl, refl)) refl c.new-in-W96.ensures.reduces (λ es. refl))
