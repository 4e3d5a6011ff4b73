-- Operators on one number of w64 obey the laws.
use Rattle.std.proofs.Common.{◌≡◌, ℤ, pos, ◌*ℤ◌, List, [], ◌∷◌, FitsSigned, ap, sym, ◌∙◌, arith}
use Rattle.std.specs.Int.{int_wrap, w64}
use Rattle.std.proofs.Math.IntN.{*ℤ_comm}
use Rattle.std.proofs.lemmas.Int.{ints, int_wrap_fits, SFits-int_wrap, int_wrap-mul_left, int_wrap-mul_right}
use Rattle.op_laws.specs.declared.width.Width.{Width}
use Rattle.op_laws.specs.declared.width.Width.TheVariants.{W64}
use Rattle.op_laws.specs.Admits.{Admits}
use Rattle.op_laws.specs.Widths.{FitsWidth}
use Rattle.op_laws.specs.Laws.{LiftLaws, CombineLaws, UnitLaws, CommuteLaws}
use Rattle.op_catalog.specs.Numbers.{number_of}
use Rattle.op_catalog.specs.Words.{IsWordType, IsWord}
use Rattle.op_catalog.specs.Products.{wrapped_product}
use Rattle.op_catalog.specs.Rings.{*ℤ_assoc}

-- a number of w64 is one that fits 64 bits
pub FitsWidth-signed : (x : ℤ) → FitsSigned w64 x → FitsWidth W64 x
FitsWidth-signed x f = record { low = omega (arith, ints); high = omega (arith, ints) }

pub FitsSigned-word : (x : ℤ) → FitsWidth W64 x → FitsSigned w64 x
FitsSigned-word x f = omega (arith, ints, f.low, f.high)

pub lifted_fits : (ty : List Width) (e : List ℤ) → IsWordType ty → Admits ty e → FitsWidth W64 (number_of e)
lifted_fits ty [] taken admitted = absurd (rw taken at admitted)
lifted_fits ty (x ∷ xs) taken admitted = let fits = rw taken at admitted in fits.0

pub word_lift_laws : LiftLaws IsWordType (λ ty. ty) number_of (λ c. c ∷ []) IsWord
word_lift_laws = record {
  grows = λ c m n le f. f;
  lifted_fits = lifted_fits;
  finished_admitted = λ ty c n taken few f. rw taken (f, tt);
}

-- ---- products modulo 2^64

pub wrapped_fits : (x : ℤ) → FitsWidth W64 (int_wrap w64 x)
wrapped_fits x = FitsWidth-signed (int_wrap w64 x) (SFits-int_wrap w64 x)

pub wrapped_assoc : (a b c : ℤ) → wrapped_product (wrapped_product a b) c ≡ wrapped_product a (wrapped_product b c)
wrapped_assoc a b c = int_wrap-mul_left w64 (a *ℤ b) c ∙ ap (int_wrap w64) (*ℤ_assoc a b c) ∙ sym (int_wrap-mul_right w64 a (b *ℤ c))

one_right : (a : ℤ) → a *ℤ pos 1 ≡ a
one_right a = omega (arith, ints)

one_left : (a : ℤ) → pos 1 *ℤ a ≡ a
one_left a = omega (arith, ints)

pub wrapped_one : (a : ℤ) → FitsWidth W64 a → wrapped_product a (pos 1) ≡ a
wrapped_one a f = ap (int_wrap w64) (one_right a) ∙ int_wrap_fits w64 a (FitsSigned-word a f)

pub one_wrapped : (a : ℤ) → FitsWidth W64 a → wrapped_product (pos 1) a ≡ a
one_wrapped a f = ap (int_wrap w64) (one_left a) ∙ int_wrap_fits w64 a (FitsSigned-word a f)

pub product_combine_laws : CombineLaws wrapped_product IsWord
product_combine_laws = record {
  combined_fits = λ a m b n few fa fb. wrapped_fits (a *ℤ b);
  associative = λ a l b m c n few fa fb fc. wrapped_assoc a b c;
}

pub product_unit_laws : UnitLaws (pos 1) wrapped_product IsWord
product_unit_laws = record {
  nothing_fits = record { low = omega (arith, ints); high = omega (arith, ints) };
  left = λ a n few f. one_wrapped a f;
  right = λ a n few f. wrapped_one a f;
}

pub product_commute_laws : CommuteLaws wrapped_product IsWord
product_commute_laws = record { commutative = λ a m b n few fa fb. ap (int_wrap w64) (*ℤ_comm a b) }
