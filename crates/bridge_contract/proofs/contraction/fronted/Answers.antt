use Rattle.std.proofs.Common.{◌≡◌, sym, ◌∙◌, ap, refl, ◌++◌, ◌∷◌, []}
use Rattle.bridge_contract.proofs.contraction.fronted.Goals as goal

pub returns-in-AtJoin : goal.returns-in-AtJoin
returns-in-AtJoin g c =
    rw c.in-AtJoin.is (c.taken-l.result, c.taken-r.result, c.taken-l.ensures ∙ ap (λ x. x ++ c.taken-l.result ∷ []) c.taken-r.ensures, c.join.ensures)
