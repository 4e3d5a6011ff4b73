use Rattle.std.proofs.Common.{[], ◌∷◌, inl, inr, refl}
use Rattle.op_laws.specs.declared.width.Width.TheVariants.{W64, W96, W128}
use Rattle.op_catalog.specs.declared.list_op.ListOp.TheVariants.{Min}
use Rattle.op_catalog.specs.Numbers.{numbers_of}
use Rattle.op_catalog.specs.Bounds.{top, least_of}
use Rattle.op_catalog.proofs.DispatchLemmas.{from_reduces}
use Rattle.matrix_catalog.proofs.CommutingLemmas.{own_results}
use Rattle.matrix_catalog.proofs.commuting.min_at.Goals as goal

pub returns-in-W64 : goal.returns-in-W64
returns-in-W64 c = rw c.in-W64.ensures (own_results Min (W64 ∷ []) (from_reduces Min (W64 ∷ []) (λ es. least_of (top W64) (numbers_of es) ∷ []) (record { known = inl refl; one = refl }) refl c.new.ensures.reduces (λ es. refl)))

pub returns-in-W96 : goal.returns-in-W96
returns-in-W96 c = rw c.in-W96.ensures (own_results Min (W96 ∷ []) (from_reduces Min (W96 ∷ []) (λ es. least_of (top W96) (numbers_of es) ∷ []) (record { known = inr (inl refl); one = refl }) refl c.new-in-W96.ensures.reduces (λ es. refl)))

pub returns-in-W128 : goal.returns-in-W128
returns-in-W128 c = rw c.in-W128.ensures (own_results Min (W128 ∷ []) (from_reduces Min (W128 ∷ []) (λ es. least_of (top W128) (numbers_of es) ∷ []) (record { known = inr (inr refl); one = refl }) refl c.new-in-W128.ensures.reduces (λ es. refl)))
