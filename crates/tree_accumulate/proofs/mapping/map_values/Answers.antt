use Rattle.std.proofs.Common.{◌++◌, ◌∷◌, [], map, take, length, ap, sym, arith, ◌∙◌}
use Rattle.std.proofs.lemmas.List.{take_more, length-take-le, length-map, map-append}
use Rattle.scalar_expr.specs.Values.{values_of}
use Rattle.tree_accumulate.proofs.mapping.map_values.Goals as goal

pub loop-i-init : goal.loop-i-init
loop-i-init c = record { ty = c.in_ok-out.ensures.ty ∙ c.gives.ensures; items = c.in_ok-out.ensures.items }

pub eval-requires : goal.eval-requires
eval-requires c = rw c.requires c.at.ensures.admitted

pub push-requires-clause-admitted : goal.push-requires-clause-admitted
push-requires-clause-admitted c = rw c.loop-i.invariant.ty c.eval.ensures.fits

pub push-requires-clause-room : goal.push-requires-clause-room
push-requires-clause-room c =
    let xs = c.args.xs.now.items in
    let long = ap length c.loop-i.invariant.items ∙ length-map (take c.loop-i.i xs) (values_of c.args.f.now.scalars) in
    let short = length-take-le c.loop-i.i xs (omega arith) in
    omega arith

pub loop-i-preserved : goal.loop-i-preserved
loop-i-preserved c =
    let xs = c.args.xs.now.items in let f = values_of c.args.f.now.scalars in
    record {
      ty = c.in_ok-push.ensures.ty ∙ c.loop-i.invariant.ty;
      items = c.in_ok-push.ensures.ok
          ∙ ap (λ ys. ys ++ c.eval.result ∷ []) c.loop-i.invariant.items
          ∙ ap (λ y. map f (take c.loop-i.i xs) ++ y ∷ []) (c.eval.ensures.value ∙ ap f c.at.ensures.value)
          ∙ sym (ap (map f) (take_more xs c.loop-i.i [] (omega arith)) ∙ map-append f (take c.loop-i.i xs) _);
    }
