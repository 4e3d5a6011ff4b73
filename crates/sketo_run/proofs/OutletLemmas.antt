-- What went out through an outlet that held nothing at first.
use Rattle.std.proofs.Common.{ℕ, List, [], ◌++◌, Option, Some, None, ap, refl, sym, ◌∙◌, append_assoc}
use Rattle.std.specs.Prelude.{Result, Ok, Err, OnErr}
use Rattle.outside.specs.Outside.{AppendsFront}
use Rattle.plain_text.specs.Pending.{Pending, nothing_pending}
use Rattle.plain_text.specs.Given.{IsGiven}
use Rattle.plain_text.specs.Hands.{Hands}

handed_in_part : (x held : List ℕ) (w v u : Option (List ℕ)) → Hands w v x held → AppendsFront v u held → AppendsFront w u x
handed_in_part x held None v u p q = ([], x, refl, tt)
handed_in_part x held (Some w) None u p q = absurd p
handed_in_part x held (Some w) (Some v) None p q = absurd q.3
handed_in_part x held (Some w) (Some v) (Some u) p q =
    (p.0 ++ q.0, q.1, p.1 ∙ (ap (λ (l : List ℕ). p.0 ++ l) q.2 ∙ sym (append_assoc p.0 q.0 q.1)), q.3 ∙ (ap (λ (l : List ℕ). l ++ q.0) p.2 ∙ append_assoc w p.0 q.0))

-- it failed to
pub part_out : {T E : Type 0} (r : Result T E) (x : List ℕ) (a : Pending) (w v u : Option (List ℕ)) → IsGiven x nothing_pending a w v → OnErr r (AppendsFront v u a.held) → OnErr r (AppendsFront w u x)
part_out (Ok _) x a w v u p q = tt
part_out (Err _) x a w v u p q = handed_in_part x a.held w v u p.hands q
