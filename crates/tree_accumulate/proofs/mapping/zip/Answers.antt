use Rattle.std.proofs.Common.{◌++◌, ap, sym, ◌∙◌, length, arith}
use Rattle.op_laws.specs.Lists.{zipped}
use Rattle.op_laws.specs.Trees.{values_of}
use Rattle.tree_accumulate.proofs.Shapes.{zip_is, zip_long, zip_length, if_ok}
use Rattle.tree_accumulate.proofs.mapping.zip.Goals as goal

pub zip_values-requires-clause-long : goal.zip_values-requires-clause-long
zip_values-requires-clause-long c =
    ap (λ x. length x.items) c.values.ensures ∙ zip_long c.args.t.now.tree c.args.u.now.tree c.requires.same ∙ sym (ap (λ x. length x.items) c.values-2.ensures)

pub zip_values-requires-clause-few : goal.zip_values-requires-clause-few
zip_values-requires-clause-few c =
    let x = ap (λ x. length x.ty) c.values.ensures in let y = ap (λ x. length x.ty) c.values-2.ensures in
    let few = c.requires.few in omega arith

pub reshape-requires : goal.reshape-requires
reshape-requires c =
    let t = c.args.t.now.tree in let u = c.args.u.now.tree in
    let columns = ap (λ x. zipped x.items c.values-2.result.now.items) c.values.ensures ∙ ap (λ y. zipped (values_of t) y.items) c.values-2.ensures in
    ap length (c.in_ok-values.ensures.items ∙ columns) ∙ zip_length t u c.requires.same

pub returns-clause-ty : goal.returns-clause-ty
returns-clause-ty c =
    let types = ap (λ x. x.ty ++ c.values-2.result.now.ty) c.values.ensures ∙ ap (λ y. c.args.t.now.ty ++ y.ty) c.values-2.ensures in
    if_ok c.reshape.result (λ v p. p.ty ∙ c.in_ok-values.ensures.ty ∙ types) c.reshape.ensures

pub returns-clause-tree : goal.returns-clause-tree
returns-clause-tree c =
    let t = c.args.t.now.tree in let u = c.args.u.now.tree in
    let columns = ap (λ x. zipped x.items c.values-2.result.now.items) c.values.ensures ∙ ap (λ y. zipped (values_of t) y.items) c.values-2.ensures in
    if_ok c.reshape.result (λ v p. zip_is t u v.tree c.requires.same p.marks (p.values ∙ c.in_ok-values.ensures.items ∙ columns)) c.reshape.ensures
