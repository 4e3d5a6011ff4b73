-- The fold by affine functions is their composition.
use Rattle.std.proofs.Common.{◌≡◌, ℤ, pos, ◌*ℤ◌, List, [], ◌∷◌, map, refl, ap, sym, ◌∙◌}
use Rattle.std.specs.List.{fold, All}
use Rattle.std.specs.Int.{w64, int_wrap}
use Rattle.std.proofs.lemmas.Int.{int_wrap-mul_left, int_wrap_fits}
use Rattle.std.proofs.lemmas.List.Elements.{All-head}
use Rattle.op_laws.specs.declared.width.Width.{Width}
use Rattle.op_laws.specs.declared.width.Width.TheVariants.{W64}
use Rattle.op_laws.specs.Admits.{Admits}
use Rattle.op_laws.specs.Widths.{FitsWidth}
use Rattle.op_laws.specs.Folds.{step, fold_or}
use Rattle.op_catalog.specs.Products.{product_of}
use Rattle.op_catalog.specs.Rings.{*ℤ_assoc}
use Rattle.op_catalog.specs.Lines.{line, line_of, scale_of, offset_of, after_line, pair_of, IsLineType, image_of, affine_of}
use Rattle.op_catalog.specs.WordLaws.{FitsSigned-word, wrapped_fits, wrapped_one, product_unit_laws}
use Rattle.op_catalog.specs.LineLaws.{line_same, line_fits, image_of_zero}

lines_from : (s o : ℤ) (es : List (List ℤ)) → FitsWidth W64 s
    → fold (step line_of after_line) (line s o) es ≡ line (int_wrap w64 (s *ℤ product_of (map scale_of es))) (fold image_of o es)
lines_from s o [] f = line_same _ _ _ _ (sym (wrapped_one s f)) refl
lines_from s o (e ∷ es) f =
    let x = scale_of e in
    let rest = product_of (map scale_of es) in
    lines_from (int_wrap w64 (s *ℤ x)) (image_of o e) es (wrapped_fits (s *ℤ x))
    ∙ line_same _ _ _ _ (int_wrap-mul_left w64 (s *ℤ x) rest ∙ ap (int_wrap w64) (*ℤ_assoc s x rest)) refl

pub fold_or-lines : (ty : List Width) (es : List (List ℤ)) → IsLineType ty → All (Admits ty) es → pair_of (fold_or (line (pos 1) (pos 0)) line_of after_line es) ≡ affine_of es
fold_or-lines ty [] taken all = ap (λ a. a ∷ pos 0 ∷ []) (sym (int_wrap_fits w64 (pos 1) (FitsSigned-word (pos 1) product_unit_laws.nothing_fits)))
fold_or-lines ty (e ∷ es) taken all =
    let fits = line_fits ty e taken (All-head (Admits ty) e es all) in
    ap pair_of (lines_from (scale_of e) (offset_of e) es fits.scale)
    ∙ ap (λ y. int_wrap w64 (product_of (map scale_of (e ∷ es))) ∷ fold image_of y es ∷ []) (sym (image_of_zero (scale_of e) (offset_of e) fits.offset))
