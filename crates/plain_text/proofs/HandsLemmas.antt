-- Bytes that are given one after another.
use Rattle.std.proofs.Common.{◌≡◌, ℕ, List, [], ◌++◌, Option, Some, None, ap, refl, sym, ◌∙◌, append_assoc}
use Rattle.std.specs.Prelude.{Result, Ok, Err, is_err, OnErr, true}
use Rattle.std.proofs.lemmas.List.{append-nil}
use Rattle.outside.specs.Outside.{AppendsFront}
use Rattle.plain_text.specs.Hands.{Hands}

-- nothing is given yet
pub none_given : (a : Option (List ℕ)) (h : List ℕ) → Hands a a h h
none_given None h = tt
none_given (Some w) h = ([], refl, sym (append-nil w))

-- more is given after what went out or is held
pub more_given : (a b c : Option (List ℕ)) (g h x k : List ℕ) → Hands a b g h → Hands b c (h ++ x) k → Hands a c (g ++ x) k
more_given None b c g h x k p q = tt
more_given (Some w) None c g h x k p q = absurd p
more_given (Some w) (Some v) None g h x k p q = absurd q
more_given (Some w) (Some v) (Some u) g h x k p q =
    (p.0 ++ q.0, ap (λ (l : List ℕ). l ++ x) p.1 ∙ (append_assoc p.0 h x ∙ (ap (λ (l : List ℕ). p.0 ++ l) q.1 ∙ sym (append_assoc p.0 q.0 k))), q.2 ∙ (ap (λ (l : List ℕ). l ++ q.0) p.2 ∙ append_assoc w p.0 q.0))

-- a fault after some of what was given
pub cut_off : (a b c : Option (List ℕ)) (g h x : List ℕ) → Hands a b g h → AppendsFront b c (h ++ x) → AppendsFront a c (g ++ x)
cut_off None b c g h x p q = ([], g ++ x, refl, tt)
cut_off (Some w) None c g h x p q = absurd p
cut_off (Some w) (Some v) None g h x p q = absurd q.3
cut_off (Some w) (Some v) (Some u) g h x p q =
    (p.0 ++ q.0, q.1, ap (λ (l : List ℕ). l ++ x) p.1 ∙ (append_assoc p.0 h x ∙ (ap (λ (l : List ℕ). p.0 ++ l) q.2 ∙ sym (append_assoc p.0 q.0 q.1))), q.3 ∙ (ap (λ (l : List ℕ). l ++ q.0) p.2 ∙ append_assoc w p.0 q.0))

-- a front of some bytes is one of these and more
pub front_of_more : (a b : Option (List ℕ)) (given more : List ℕ) → AppendsFront a b given → AppendsFront a b (given ++ more)
front_of_more a b given more p = (p.0, p.1 ++ more, ap (λ (l : List ℕ). l ++ more) p.2 ∙ append_assoc p.0 p.1 more, p.3)

-- what a call says of its failure
pub failure_says : {T E : Type 0} (r : Result T E) (P : Type 0) → is_err r ≡ true → OnErr r P → P
failure_says (Ok x) P e h = cc
failure_says (Err x) P e h = h
