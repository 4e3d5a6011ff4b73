-- A commutative operator of the catalogue on results is the operator of its name.
use Rattle.std.proofs.Common.{◌≡◌, ℤ, ◌+ℤ◌, List, [], ◌∷◌, Some, refl, ap, sym, ◌∙◌}
use Rattle.std.specs.List.{fold}
use Rattle.std.proofs.lemmas.List.Elements.{All-map}
use Rattle.op_laws.specs.declared.width.Width.{Width}
use Rattle.op_laws.specs.Admits.{Admits}
use Rattle.op_laws.specs.Elements.{singles}
use Rattle.op_laws.specs.Folds.{step}
use Rattle.op_catalog.specs.declared.list_op.ListOp.{ListOp}
use Rattle.op_catalog.specs.declared.list_op.ListOp.TheVariants.{Add}
use Rattle.op_catalog.specs.Numbers.{number_of}
use Rattle.op_catalog.specs.Operators.{IsMonoidOf}
use Rattle.op_catalog.proofs.Meanings.{fold_or-sum}
use Rattle.matrix_catalog.specs.Operators.{IsCommutingOf}

-- a fold of elements of one number is that of the numbers
fold-singles : (op : ℤ → ℤ → ℤ) (c : ℤ) (cs : List ℤ) → fold (step number_of op) c (singles cs) ≡ fold op c cs
fold-singles op c [] = refl
fold-singles op c (d ∷ cs) = fold-singles op (op c d) cs

-- an operator whose results are elements of the type that it takes
pub own_results : {takes : List Width → Type 0} {op : ℤ → ℤ → ℤ} {nothing : ℤ} (name : ListOp) (ty : List Width) → IsMonoidOf takes (λ ty. ty) (λ c. c ∷ []) nothing number_of op name ty
    → IsCommutingOf takes (λ ty. ty) (λ c. c ∷ []) number_of op name name ty
own_results {op} name ty monoid = record {
  same = refl;
  operator = monoid.operator;
  again = λ c cs all. monoid.operator.reduces (c ∷ []) (singles cs) (All-map (Admits ty) (λ c. c ∷ []) (c ∷ cs) all) ∙ ap (λ d. Some (d ∷ [])) (fold-singles op c cs);
}

-- sums are of the next width
pub sum_results : {takes : List Width → Type 0} {gives : List Width → List Width} {nothing : ℤ} (ty : List Width) → IsMonoidOf takes gives (λ c. c ∷ []) nothing number_of (λ a b. a +ℤ b) Add ty
    → IsCommutingOf takes gives (λ c. c ∷ []) number_of (λ a b. a +ℤ b) Add Add ty
sum_results ty monoid = record {
  same = refl;
  operator = monoid.operator;
  again = λ c cs all. ap (λ d. Some (d ∷ [])) (sym (fold_or-sum (singles (c ∷ cs))) ∙ fold-singles (λ a b. a +ℤ b) c cs);
}
