use Rattle.std.proofs.Common.{ap, ◌∙◌, map, length}
use Rattle.std.proofs.lemmas.List.{length-map}
use Rattle.op_laws.specs.Trees.{values_of, top}
use Rattle.op_laws.specs.TreeSkeletons.{mapped}
use Rattle.scalar_expr.specs.Values as scalars
use Rattle.bin_tree.proofs.TreeLemmas.{length-column}
use Rattle.tree_accumulate.proofs.Shapes.{kept_is, if_ok}
use Rattle.tree_accumulate.proofs.mapping.map.Goals as goal

pub reshape-requires : goal.reshape-requires
reshape-requires c =
    let t = c.args.t.now.tree in let f = scalars.values_of c.args.f.now.scalars in
    ap length c.in_ok-values.ensures.items ∙ length-map c.values.result.now.items f ∙ ap (λ x. length x.items) c.values.ensures ∙ length-column top t

pub returns-clause-ty : goal.returns-clause-ty
returns-clause-ty c = if_ok c.reshape.result (λ u p. p.ty ∙ c.in_ok-values.ensures.ty) c.reshape.ensures

pub returns-clause-tree : goal.returns-clause-tree
returns-clause-tree c =
    let t = c.args.t.now.tree in let f = scalars.values_of c.args.f.now.scalars in
    if_ok c.reshape.result (λ u p. kept_is t (mapped f t) u.tree (map f (values_of t)) (c.shapes_are_kept.ensures.each f t) p.marks (p.values ∙ c.in_ok-values.ensures.items ∙ ap (λ x. map f x.items) c.values.ensures)) c.reshape.ensures
