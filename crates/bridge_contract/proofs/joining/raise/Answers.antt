use Rattle.std.proofs.Common.{◌≡◌, sym, ◌∙◌, ap, refl, ◌++◌, ◌∷◌, [], ◌+◌}
use Rattle.bridge_contract.proofs.joining.raise.Goals as goal

pub returns-in-Hole : goal.returns-in-Hole
returns-in-Hole g c =
    rw c.in-Hole.is (
      c.taken-x.result,
      c.taken-y.result,
      c.taken-x.ensures ∙ ap (λ x. x ++ c.taken-x.result ∷ []) c.taken-y.ensures,
      ap (λ v. (v, c.taken-x.result.1 + c.in-Hole.n + c.taken-y.result.1)) c.psi_n.ensures,
    )
