use Rattle.std.proofs.Common.{[], ◌∷◌, inl, inr, refl}
use Rattle.op_laws.specs.declared.width.Width.TheVariants.{W64, W96, W128}
use Rattle.tree_names.specs.declared.down_name.DownName.TheVariants.{PathMax}
use Rattle.tree_catalog.proofs.Dispatch.{down_tree}
use Rattle.tree_catalog.proofs.down_operator.path_max_at.Goals as goal

pub returns-in-W64 : goal.returns-in-W64
returns-in-W64 c = rw c.in-W64.ensures (down_tree PathMax (W64 ∷ []) (record { known = inl refl; one = refl }) refl c.new.ensures)

pub returns-in-W96 : goal.returns-in-W96
returns-in-W96 c = rw c.in-W96.ensures (down_tree PathMax (W96 ∷ []) (record { known = inr (inl refl); one = refl }) refl c.new-in-W96.ensures)

pub returns-in-W128 : goal.returns-in-W128
returns-in-W128 c = rw c.in-W128.ensures (down_tree PathMax (W128 ∷ []) (record { known = inr (inr refl); one = refl }) refl c.new-in-W128.ensures)
