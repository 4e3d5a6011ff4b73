-- Affine functions modulo 2^64 obey the laws of operators.
use Rattle.std.proofs.Common.{◌≡◌, ℤ, pos, ◌+ℤ◌, ◌*ℤ◌, List, [], ◌∷◌, ap, sym, ◌∙◌, arith}
use Rattle.std.specs.Int.{w64, int_wrap}
use Rattle.std.proofs.Math.IntN.{*ℤ_comm}
use Rattle.std.proofs.lemmas.Int.{ints, int_wrap_fits, int_wrap-mul_left, int_wrap-mul_right, int_wrap-add_right, int_wrap-add_same}
use Rattle.op_laws.specs.declared.width.Width.{Width}
use Rattle.op_laws.specs.declared.width.Width.TheVariants.{W64}
use Rattle.op_laws.specs.Admits.{Admits}
use Rattle.op_laws.specs.Widths.{FitsWidth}
use Rattle.op_laws.specs.Laws.{LiftLaws, CombineLaws, UnitLaws}
use Rattle.op_catalog.specs.Rings.{*ℤ_assoc, *ℤ-+ℤ}
use Rattle.op_catalog.specs.Lines.{line, line_of, after_line, pair_of, IsLineType, IsLine}
use Rattle.op_catalog.specs.WordLaws.{FitsSigned-word, wrapped_fits, wrapped_assoc, wrapped_one, one_wrapped}

pub line_same : (a a' b b' : ℤ) → a ≡ a' → b ≡ b' → line a b ≡ line a' b'
line_same a a' b b' p q = cc

pub line_fits : (ty : List Width) (e : List ℤ) → IsLineType ty → Admits ty e → IsLine (line_of e) 1
line_fits ty [] taken admitted = absurd (rw taken at admitted)
line_fits ty (x ∷ []) taken admitted = let fits = rw taken at admitted in absurd fits.1
line_fits ty (x ∷ y ∷ e) taken admitted = let fits = rw taken at admitted in record { scale = fits.0; offset = fits.1.0 }

pub line_lift_laws : LiftLaws IsLineType (λ ty. ty) line_of pair_of IsLine
line_lift_laws = record {
  grows = λ c m n le f. record { scale = f.scale; offset = f.offset };
  lifted_fits = line_fits;
  finished_admitted = λ ty c n taken few f. rw taken (f.scale, (f.offset, tt));
}

-- the offsets of three functions, whichever two are joined first
offsets : (b c d e f : ℤ) → (e *ℤ ((c *ℤ b) +ℤ d)) +ℤ f ≡ ((c *ℤ e) *ℤ b) +ℤ ((e *ℤ d) +ℤ f)
offsets b c d e f =
    let spread = *ℤ-+ℤ e (c *ℤ b) d in
    let moved = sym (*ℤ_assoc e c b) ∙ ap (λ t. t *ℤ b) (*ℤ_comm e c) in
    omega (arith, ints, spread, moved)

offsets_wrapped : (b c d e f : ℤ) → int_wrap w64 ((e *ℤ int_wrap w64 ((c *ℤ b) +ℤ d)) +ℤ f) ≡ int_wrap w64 ((int_wrap w64 (c *ℤ e) *ℤ b) +ℤ int_wrap w64 ((e *ℤ d) +ℤ f))
offsets_wrapped b c d e f =
    int_wrap-add_same w64 _ _ f (int_wrap-mul_right w64 e ((c *ℤ b) +ℤ d))
    ∙ ap (int_wrap w64) (offsets b c d e f)
    ∙ sym (int_wrap-add_same w64 _ _ ((e *ℤ d) +ℤ f) (int_wrap-mul_left w64 (c *ℤ e) b))
    ∙ sym (int_wrap-add_right w64 (int_wrap w64 (c *ℤ e) *ℤ b) ((e *ℤ d) +ℤ f))

pub line_combine_laws : CombineLaws after_line IsLine
line_combine_laws = record {
  combined_fits = λ a m b n few fa fb. record { scale = wrapped_fits (a.scale *ℤ b.scale); offset = wrapped_fits ((b.scale *ℤ a.offset) +ℤ b.offset) };
  associative = λ a l b m c n few fa fb fc. line_same _ _ _ _ (wrapped_assoc a.scale b.scale c.scale) (offsets_wrapped a.offset b.scale b.offset c.scale c.offset);
}

kept_left : (a b : ℤ) → (a *ℤ pos 0) +ℤ b ≡ b
kept_left a b = omega (arith, ints)

kept_right : (b : ℤ) → (pos 1 *ℤ b) +ℤ pos 0 ≡ b
kept_right b = omega (arith, ints)

-- the image of 0
pub image_of_zero : (a b : ℤ) → FitsWidth W64 b → int_wrap w64 ((a *ℤ pos 0) +ℤ b) ≡ b
image_of_zero a b f = ap (int_wrap w64) (kept_left a b) ∙ int_wrap_fits w64 b (FitsSigned-word b f)

pub line_unit_laws : UnitLaws (line (pos 1) (pos 0)) after_line IsLine
line_unit_laws = record {
  nothing_fits = record { scale = record { low = omega (arith, ints); high = omega (arith, ints) }; offset = record { low = omega (arith, ints); high = omega (arith, ints) } };
  left = λ a n few f. line_same _ _ _ _ (one_wrapped a.scale f.scale) (image_of_zero a.scale a.offset f.offset);
  right = λ a n few f. line_same _ _ _ _ (wrapped_one a.scale f.scale)
      (ap (int_wrap w64) (kept_right a.offset) ∙ int_wrap_fits w64 a.offset (FitsSigned-word a.offset f.offset));
}
