-- The fold that keeps one operand is the first or the last element.
use Rattle.std.proofs.Common.{◌≡◌, ℤ, List, [], ◌∷◌, Some, refl}
use Rattle.std.specs.List.{fold}
use Rattle.op_laws.specs.Folds.{step}
use Rattle.op_catalog.specs.Ends.{first_element, last_element}

pub fold-first : (e : List ℤ) (es : List (List ℤ)) → first_element (e ∷ es) ≡ Some (fold (step (λ e. e) (λ a b. a)) e es)
fold-first e [] = refl
fold-first e (d ∷ es) = fold-first e es

pub fold-last : (e : List ℤ) (es : List (List ℤ)) → last_element (e ∷ es) ≡ Some (fold (step (λ e. e) (λ a b. b)) e es)
fold-last e [] = refl
fold-last e (d ∷ es) = fold-last d es
