use Rattle.std.proofs.Common.{◌++◌, ◌∷◌, [], length, take, get_or, ap, sym, arith, ◌∙◌}
use Rattle.op_laws.specs.Lists.{zipped}
use Rattle.tree_accumulate.proofs.Elements.{Admits-append, length-Admits, zipped-more, length-zipped-take}
use Rattle.tree_accumulate.proofs.mapping.zip_values.Goals as goal

pub loop-i-init : goal.loop-i-init
loop-i-init c = record {
  ty = c.in_ok-out.ensures.ty ∙ c.joined_type.ensures ∙ ap (λ a. a ++ c.ty-2.result) c.ty.ensures ∙ ap (λ b. c.args.xs.now.ty ++ b) c.ty-2.ensures;
  items = c.in_ok-out.ensures.items;
}

pub join-requires : goal.join-requires
join-requires c =
    omega (arith, c.requires.few, length-Admits c.args.xs.now.ty c.at.result c.at.ensures.admitted, length-Admits c.args.ys.now.ty c.at-in-loop-i.result c.at-in-loop-i.ensures.admitted)

pub push-requires-clause-admitted : goal.push-requires-clause-admitted
push-requires-clause-admitted c =
    rw (c.loop-i.invariant.ty, c.join.ensures) (Admits-append c.args.xs.now.ty c.args.ys.now.ty c.at.result c.at-in-loop-i.result c.at.ensures.admitted c.at-in-loop-i.ensures.admitted)

pub push-requires-clause-room : goal.push-requires-clause-room
push-requires-clause-room c =
    let long = ap length c.loop-i.invariant.items ∙ length-zipped-take c.args.xs.now.items c.args.ys.now.items c.loop-i.i c.requires.long (omega arith) in
    omega arith

pub loop-i-preserved : goal.loop-i-preserved
loop-i-preserved c =
    let xs = c.args.xs.now.items in let ys = c.args.ys.now.items in
    let front = zipped (take c.loop-i.i xs) (take c.loop-i.i ys) in
    record {
      ty = c.in_ok-push.ensures.ty ∙ c.loop-i.invariant.ty;
      items = c.in_ok-push.ensures.ok
          ∙ ap (λ zs. zs ++ c.join.result ∷ []) c.loop-i.invariant.items
          ∙ ap (λ e. front ++ e ∷ []) (c.join.ensures ∙ ap (λ e. e ++ c.at-in-loop-i.result) c.at.ensures.value ∙ ap (λ e. get_or xs c.loop-i.i [] ++ e) c.at-in-loop-i.ensures.value)
          ∙ sym (zipped-more xs ys c.loop-i.i c.requires.long (omega arith));
    }
