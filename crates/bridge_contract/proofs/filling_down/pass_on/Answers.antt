use Rattle.std.proofs.Common.{◌≡◌, ◌+◌, ◌≤◌, ◌++◌, ◌∷◌, [], refl, sym, ap, ◌∙◌, arith}
use Rattle.bridge_contract.proofs.filling_down.pass_on.Goals as goal

pub returns-in_ok-push-in-AtJoin-2 : goal.returns-in_ok-push-in-AtJoin-2
returns-in_ok-push-in-AtJoin-2 g c =
    let k = g.D.DownOp.downward c.args.op.now in
    let old = c.args.stack.now.items in let top = c.args.top in
    let n = top.1 + 2 in
    rw c.in-AtJoin.is (c.in_ok-push-in-AtJoin-2.ensures.items ∙ ap (λ x. x ++ (c.psi_d-left.result, n) ∷ []) c.in_ok-push-in-AtJoin.ensures.items
    ∙ ap (λ v. (old ++ (v, n) ∷ []) ++ (c.psi_d-left.result, n) ∷ []) (c.psi_d-right.ensures ∙ ap (k.down top.0) c.phi_r.ensures)
    ∙ ap (λ v. (old ++ (k.down top.0 (k.right c.in-AtJoin.b), n) ∷ []) ++ (v, n) ∷ []) (c.psi_d-left.ensures ∙ ap (k.down top.0) c.phi_l.ensures))
