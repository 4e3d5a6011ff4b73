use Rattle.std.proofs.Common.{[], ◌∷◌, inl, inr, refl}
use Rattle.op_laws.specs.declared.width.Width.TheVariants.{W64, W96}
use Rattle.tree_names.specs.declared.down_name.DownName.TheVariants.{PathSum}
use Rattle.tree_catalog.proofs.Dispatch.{down_tree}
use Rattle.tree_catalog.proofs.down_operator.path_sum_at.Goals as goal

pub returns-in-W64 : goal.returns-in-W64
returns-in-W64 c = rw c.in-W64.ensures (down_tree PathSum (W64 ∷ []) (inl (refl, refl)) refl c.new.ensures)

pub returns-in-W96 : goal.returns-in-W96
returns-in-W96 c = rw c.in-W96.ensures (down_tree PathSum (W96 ∷ []) (inr (refl, refl)) refl c.new-in-W96.ensures)
