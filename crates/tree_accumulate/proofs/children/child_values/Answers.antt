use Rattle.std.proofs.Common.{◌≡◌, ◌++◌, ◌∷◌, [], length, take, ap, sym, arith, ◌∙◌}
use Rattle.std.proofs.lemmas.List.{take_more, length-take-le}
use Rattle.std.proofs.Math.Seq.{take-length}
use Rattle.op_laws.specs.Trees.{column}
use Rattle.bin_tree.proofs.TreeLemmas.{length-column, get_or-column}
use Rattle.tree_accumulate.specs.Children.{child_at}
use Rattle.tree_accumulate.proofs.children.child_values.Goals as goal

pub loop-i-init : goal.loop-i-init
loop-i-init c = record { ty = c.in_ok-out.ensures.ty ∙ c.ty.ensures ∙ ap (λ x. x.ty) c.values.ensures; items = c.in_ok-out.ensures.items }

pub push-requires-clause-room : goal.push-requires-clause-room
push-requires-clause-room c =
    let all = column (child_at c.args.right c.args.leaf) c.args.t.now.tree in
    let whole = length-column (child_at c.args.right c.args.leaf) c.args.t.now.tree in
    let long = ap length c.loop-i.invariant.items ∙ length-take-le c.loop-i.i all (omega arith) in
    omega arith

pub loop-i-preserved : goal.loop-i-preserved
loop-i-preserved c =
    let t = c.args.t.now.tree in let f = child_at c.args.right c.args.leaf in
    let all = column f t in
    let whole = length-column f t in
    record {
      ty = c.in_ok-push.ensures.ty ∙ c.loop-i.invariant.ty;
      items = c.in_ok-push.ensures.ok
          ∙ ap (λ ys. ys ++ c.child_value.result ∷ []) c.loop-i.invariant.items
          ∙ ap (λ y. take c.loop-i.i all ++ y ∷ []) (c.child_value.ensures.value ∙ sym (get_or-column f t c.loop-i.i [] (omega arith)))
          ∙ sym (take_more all c.loop-i.i [] (omega arith));
    }

pub returns-clause-items : goal.returns-clause-items
returns-clause-items c =
    let t = c.args.t.now.tree in let f = child_at c.args.right c.args.leaf in
    let all = column f t in
    let whole = length-column f t in
    let done : c.loop-i.i ≡ length all = omega arith in
    c.loop-i.invariant.items ∙ ap (λ k. take k all) done ∙ take-length all
