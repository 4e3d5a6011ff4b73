-- The folds of the operators are what their definitions say of the whole list.
use Rattle.std.proofs.Common.{◌≡◌, ℤ, pos, ◌+ℤ◌, List, [], ◌∷◌, refl, arith}
use Rattle.std.specs.List.{fold}
use Rattle.std.specs.Int.{int_min, int_max}
use Rattle.std.proofs.lemmas.Int.{ints}
use Rattle.op_laws.specs.Folds.{step, fold_or}
use Rattle.op_catalog.specs.Numbers.{number_of, numbers_of}
use Rattle.op_catalog.specs.Sums.{sum_of}
use Rattle.op_catalog.specs.Bounds.{least_of, greatest_of}

-- a fold of elements of one number is one of their numbers
pub fold-step : (op : ℤ → ℤ → ℤ) (a : ℤ) (es : List (List ℤ)) → fold (step number_of op) a es ≡ fold op a (numbers_of es)
fold-step op a [] = refl
fold-step op a (e ∷ es) = fold-step op (op a (number_of e)) es

sum_from : (a : ℤ) (es : List (List ℤ)) → fold (step number_of (λ c d. c +ℤ d)) a es ≡ a +ℤ sum_of (numbers_of es)
sum_from a [] = omega (arith, ints)
sum_from a (e ∷ es) = omega (arith, ints, sum_from (a +ℤ number_of e) es)

pub fold_or-sum : (es : List (List ℤ)) → fold_or (pos 0) number_of (λ c d. c +ℤ d) es ≡ sum_of (numbers_of es)
fold_or-sum [] = refl
fold_or-sum (e ∷ es) = sum_from (number_of e) es

pub fold_or-min : (top : ℤ) (es : List (List ℤ)) → fold_or top number_of int_min es ≡ least_of top (numbers_of es)
fold_or-min top [] = refl
fold_or-min top (e ∷ es) = fold-step int_min (number_of e) es

pub fold_or-max : (bottom : ℤ) (es : List (List ℤ)) → fold_or bottom number_of int_max es ≡ greatest_of bottom (numbers_of es)
fold_or-max bottom [] = refl
fold_or-max bottom (e ∷ es) = fold-step int_max (number_of e) es
