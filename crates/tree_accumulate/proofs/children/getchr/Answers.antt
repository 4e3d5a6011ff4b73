use Rattle.std.proofs.Common.{true, ◌≡◌, ap, ◌∙◌, length, [], ◌∷◌, subst, rules}
use Rattle.op_laws.specs.Admits.{Admits}
use Rattle.op_laws.specs.Trees.{column}
use Rattle.op_laws.specs.TreeSkeletons.{right_values}
use Rattle.bin_tree.proofs.TreeLemmas.{length-column}
use Rattle.tree_accumulate.specs.Children.{child_at}
use Rattle.tree_accumulate.proofs.Shapes.{kept_is, if_ok}
use Rattle.tree_accumulate.proofs.ChildLemmas.{right_shape}
use Rattle.tree_accumulate.proofs.children.getchr.Goals as goal

pub child_values-requires : goal.child_values-requires
child_values-requires c = subst (λ ws. Admits ws c.single-leaf.result) (c.ty.ensures ∙ ap (λ x. x.ty) c.values.ensures) c.single-leaf.ensures.admitted

pub reshape-requires : goal.reshape-requires
reshape-requires c = ap length c.in_ok-values.ensures.items ∙ length-column (child_at true c.single-leaf.result) c.args.t.now.tree

pub returns-clause-ty : goal.returns-clause-ty
returns-clause-ty c = if_ok c.reshape.result (λ u p. p.ty ∙ c.in_ok-values.ensures.ty) c.reshape.ensures

pub returns-clause-tree : goal.returns-clause-tree
returns-clause-tree c =
    let t = c.args.t.now.tree in let e = c.args.c ∷ [] in
    let one : c.single-leaf.result ≡ c.args.c ∷ [] = search rules in
    let items = c.in_ok-values.ensures.items ∙ ap (λ x. column (child_at true x) t) one in
    if_ok c.reshape.result (λ u p. kept_is t (right_values e t) u.tree (column (child_at true e) t) (right_shape e t) p.marks (p.values ∙ items)) c.reshape.ensures
