use Rattle.std.proofs.Common.{[], ◌∷◌, inl, inr, refl}
use Rattle.op_laws.specs.declared.width.Width.TheVariants.{W64, W96}
use Rattle.tree_names.specs.declared.rose_name.RoseName.TheVariants.{Heavy}
use Rattle.tree_catalog.proofs.Dispatch.{up_rose}
use Rattle.tree_catalog.proofs.rose_operator.heavy_at.Goals as goal

pub returns-in-W64 : goal.returns-in-W64
returns-in-W64 c = rw c.in-W64.ensures (up_rose Heavy (W64 ∷ []) (inl (refl, refl)) refl c.new.ensures)

pub returns-in-W96 : goal.returns-in-W96
returns-in-W96 c = rw c.in-W96.ensures (up_rose Heavy (W96 ∷ []) (inr (refl, refl)) refl c.new-in-W96.ensures)
