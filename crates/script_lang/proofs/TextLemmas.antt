-- Types of one to four widths, and the text of all lines.
use Rattle.std.proofs.Common.{◌≡◌, ℕ, List, [], ◌∷◌, ◌++◌, length, map, Some, refl, sym, ap, ◌∙◌, subst, arith}
use Rattle.std.specs.Prelude.{slice_get, flat_map, Option, Result, OnOk, OnErr}
use Rattle.op_laws.specs.declared.width.Width.{Width}
use Rattle.plain_text.specs.Pending.{Pending}
use Rattle.plain_text.specs.Given.{IsGiven, IsCutOff}
use Rattle.script_lang.specs.TypesText.{type_line}

pub one_is : (ty : List Width) (v : Width) → length ty ≡ 1 → slice_get ty 0 ≡ Some v → ty ≡ v ∷ []
one_is [] v e p = absurd (omega (arith, e))
one_is (a ∷ []) v e p = cc
one_is (a ∷ b ∷ ws) v e p = absurd (omega (arith, e))

pub two_is : (ty : List Width) (v w : Width) → length ty ≡ 2 → slice_get ty 0 ≡ Some v → slice_get ty 1 ≡ Some w → ty ≡ v ∷ w ∷ []
two_is [] v w e p q = absurd (omega (arith, e))
two_is (a ∷ []) v w e p q = absurd (omega (arith, e))
two_is (a ∷ b ∷ []) v w e p q = cc
two_is (a ∷ b ∷ c ∷ ws) v w e p q = absurd (omega (arith, e))

pub three_is : (ty : List Width) (v w x : Width) → length ty ≡ 3 → slice_get ty 0 ≡ Some v → slice_get ty 1 ≡ Some w → slice_get ty 2 ≡ Some x → ty ≡ v ∷ w ∷ x ∷ []
three_is [] v w x e p q r = absurd (omega (arith, e))
three_is (a ∷ []) v w x e p q r = absurd (omega (arith, e))
three_is (a ∷ b ∷ []) v w x e p q r = absurd (omega (arith, e))
three_is (a ∷ b ∷ c ∷ []) v w x e p q r = cc
three_is (a ∷ b ∷ c ∷ d ∷ ws) v w x e p q r = absurd (omega (arith, e))

pub four_is : (ty : List Width) (v w x y : Width) → length ty ≡ 4 → slice_get ty 0 ≡ Some v → slice_get ty 1 ≡ Some w → slice_get ty 2 ≡ Some x → slice_get ty 3 ≡ Some y → ty ≡ v ∷ w ∷ x ∷ y ∷ []
four_is [] v w x y e p q r t = absurd (omega (arith, e))
four_is (a ∷ []) v w x y e p q r t = absurd (omega (arith, e))
four_is (a ∷ b ∷ []) v w x y e p q r t = absurd (omega (arith, e))
four_is (a ∷ b ∷ c ∷ []) v w x y e p q r t = absurd (omega (arith, e))
four_is (a ∷ b ∷ c ∷ d ∷ []) v w x y e p q r t = cc
four_is (a ∷ b ∷ c ∷ d ∷ f ∷ ws) v w x y e p q r t = absurd (omega (arith, e))

-- the text of what lines are seen as
pub text_of_map : {A B : Type 0} → (f : B → List ℕ) (g : A → B) (xs : List A) → flat_map f (map g xs) ≡ flat_map (λ x. f (g x)) xs
text_of_map f g [] = refl
text_of_map f g (x ∷ xs) = ap (λ (ys : List ℕ). f (g x) ++ ys) (text_of_map f g xs)

-- the line of the same name, kind and type
pub same_line : (m n k j : List ℕ) (s t : List Width) → m ≡ n → k ≡ j → t ≡ s → type_line m k s ≡ type_line n j t
same_line m n k j s t p q r = ap (λ (x : List ℕ). type_line x k s) p ∙ (ap (λ (x : List ℕ). type_line n x s) q ∙ ap (λ (ws : List Width). type_line n j ws) (sym r))

-- what is given or cut off of an equal text
pub given_of : {T E : Type 0} (r : Result T E) (x y : List ℕ) (a b : Pending) (w v : Option (List ℕ)) → x ≡ y → OnOk r (IsGiven x a b w v) → OnOk r (IsGiven y a b w v)
given_of r x y a b w v e p = subst (λ (text : List ℕ). OnOk r (IsGiven text a b w v)) e p

pub cut_of : {T E : Type 0} (r : Result T E) (x y : List ℕ) (a b : Pending) (w v : Option (List ℕ)) (f g : ℕ) → x ≡ y → OnErr r (IsCutOff x a b w v f g) → OnErr r (IsCutOff y a b w v f g)
cut_of r x y a b w v f g e p = subst (λ (text : List ℕ). OnErr r (IsCutOff text a b w v f g)) e p
