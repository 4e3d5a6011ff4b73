use Rattle.std.proofs.Common.{[], ◌∷◌, inl, inr, refl}
use Rattle.op_laws.specs.declared.width.Width.TheVariants.{W64, W96}
use Rattle.op_catalog.specs.declared.list_op.ListOp.TheVariants.{Add}
use Rattle.op_catalog.specs.Numbers.{numbers_of}
use Rattle.op_catalog.specs.Sums.{sum_of}
use Rattle.op_catalog.proofs.DispatchLemmas.{from_reduces}
use Rattle.matrix_catalog.proofs.CommutingLemmas.{sum_results}
use Rattle.matrix_catalog.proofs.commuting.sum_at.Goals as goal

pub returns-in-W64 : goal.returns-in-W64
returns-in-W64 c = rw c.in-W64.ensures (sum_results (W64 ∷ []) (from_reduces Add (W64 ∷ []) (λ es. sum_of (numbers_of es) ∷ []) (inl (refl, refl)) refl c.new.ensures (λ es. refl)))

pub returns-in-W96 : goal.returns-in-W96
returns-in-W96 c = rw c.in-W96.ensures (sum_results (W96 ∷ []) (from_reduces Add (W96 ∷ []) (λ es. sum_of (numbers_of es) ∷ []) (inr (refl, refl)) refl c.new-in-W96.ensures (λ es. refl)))
