-- The fold by products modulo 2^64 is the product modulo 2^64.
use Rattle.std.proofs.Common.{◌≡◌, ℤ, pos, ◌*ℤ◌, List, [], ◌∷◌, ap, sym, ◌∙◌}
use Rattle.std.specs.List.{fold, All}
use Rattle.std.specs.Int.{w64, int_wrap}
use Rattle.std.proofs.lemmas.Int.{int_wrap-mul_left, int_wrap_fits}
use Rattle.std.proofs.lemmas.List.Elements.{All-head}
use Rattle.op_laws.specs.declared.width.Width.{Width}
use Rattle.op_laws.specs.declared.width.Width.TheVariants.{W64}
use Rattle.op_laws.specs.Admits.{Admits}
use Rattle.op_laws.specs.Widths.{FitsWidth}
use Rattle.op_laws.specs.Folds.{step, fold_or}
use Rattle.op_catalog.specs.Numbers.{number_of, numbers_of}
use Rattle.op_catalog.specs.Words.{IsWordType}
use Rattle.op_catalog.specs.Products.{product_of, wrapped_product}
use Rattle.op_catalog.specs.Rings.{*ℤ_assoc}
use Rattle.op_catalog.specs.WordLaws.{lifted_fits, wrapped_fits, wrapped_one, FitsSigned-word, product_unit_laws}

product_from : (a : ℤ) (es : List (List ℤ)) → FitsWidth W64 a → fold (step number_of wrapped_product) a es ≡ int_wrap w64 (a *ℤ product_of (numbers_of es))
product_from a [] f = sym (wrapped_one a f)
product_from a (e ∷ es) f =
    let x = number_of e in
    let rest = product_of (numbers_of es) in
    product_from (wrapped_product a x) es (wrapped_fits (a *ℤ x)) ∙ int_wrap-mul_left w64 (a *ℤ x) rest ∙ ap (int_wrap w64) (*ℤ_assoc a x rest)

pub fold_or-product : (ty : List Width) (es : List (List ℤ)) → IsWordType ty → All (Admits ty) es → fold_or (pos 1) number_of wrapped_product es ≡ int_wrap w64 (product_of (numbers_of es))
fold_or-product ty [] taken all = sym (int_wrap_fits w64 (pos 1) (FitsSigned-word (pos 1) product_unit_laws.nothing_fits))
fold_or-product ty (e ∷ es) taken all = product_from (number_of e) es (lifted_fits ty e taken (All-head (Admits ty) e es all))
