use Rattle.std.proofs.Common.{[], ◌∷◌, inl, inr, refl}
use Rattle.op_laws.specs.declared.width.Width.TheVariants.{W64, W96}
use Rattle.tree_names.specs.declared.tree_name.TreeName.TheVariants.{BestSub}
use Rattle.tree_catalog.proofs.Dispatch.{up_tree}
use Rattle.tree_catalog.proofs.tree_operator.best_sub_at.Goals as goal

pub returns-in-W64 : goal.returns-in-W64
returns-in-W64 c = rw c.in-W64.ensures (up_tree BestSub (W64 ∷ []) (inl (refl, refl)) refl c.new.ensures.reduces)

pub returns-in-W96 : goal.returns-in-W96
returns-in-W96 c = rw c.in-W96.ensures (up_tree BestSub (W96 ∷ []) (inr (refl, refl)) refl c.new-in-W96.ensures.reduces)
