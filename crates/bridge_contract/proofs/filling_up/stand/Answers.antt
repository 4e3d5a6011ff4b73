use Rattle.std.proofs.Common.{◌≡◌, ◌+◌, ◌≤◌, ◌++◌, ◌∷◌, [], refl, sym, ap, ◌∙◌, arith}
use Rattle.bridge_contract.proofs.filling_up.stand.Goals as goal

pub returns-in-AtJoin : goal.returns-in-AtJoin
returns-in-AtJoin g c =
    rw c.in-AtJoin.is (c.taken-l.result, c.taken-r.result, c.taken-l.ensures ∙ ap (λ x. x ++ c.taken-l.result ∷ []) c.taken-r.ensures, c.meet-in-AtJoin.ensures)

pub returns-in-Some : goal.returns-in-Some
returns-in-Some g c = rw c.in-AtStop.is (refl, (c.in-Some.l, c.in-Some.r, c.in-Some.is, c.meet.ensures))
