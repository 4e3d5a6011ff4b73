-- Operators on matrices that are made of an operator on lists obey the laws, by its laws.
use Rattle.std.proofs.Common.{◌≡◌, ℕ, ◌+◌, ◌≤◌, ℤ, List, refl, ap, sym, ◌∙◌, arith}
use Rattle.op_laws.specs.declared.TheConstants.{MAX_ELEMENTS}
use Rattle.op_laws.specs.declared.width.Width.{Width}
use Rattle.op_laws.specs.Laws.{LiftLaws, CombineLaws, CommuteLaws, AbideLaws}

-- ---- both ways by one commutative operator

module _ {C : Type 0} {combined : C → C → C} {fits : C → ℕ → Type 0} (laws : CombineLaws combined fits) (commutes : CommuteLaws combined fits) where
  -- of three values the first two may be exchanged
  swapped : (b : C) (l : ℕ) (c : C) (m : ℕ) (d : C) (n : ℕ) → l + m + n ≤ MAX_ELEMENTS → fits b l → fits c m → fits d n → combined b (combined c d) ≡ combined c (combined b d)
  swapped b l c m d n few fb fc fd =
      sym (laws.associative b l c m d n few fb fc fd)
      ∙ ap (λ t. combined t d) (commutes.commutative b l c m (omega arith) fb fc)
      ∙ laws.associative c m b l d n (omega arith) fc fb fd

  four : (a : C) (k : ℕ) (b : C) (l : ℕ) (c : C) (m : ℕ) (d : C) (n : ℕ) → k + l + m + n ≤ MAX_ELEMENTS → fits a k → fits b l → fits c m → fits d n
      → combined (combined a b) (combined c d) ≡ combined (combined a c) (combined b d)
  four a k b l c m d n few fa fb fc fd =
      laws.associative a k b l (combined c d) (m + n) (omega arith) fa fb (laws.combined_fits c m d n (omega arith) fc fd)
      ∙ ap (combined a) (swapped b l c m d n (omega arith) fb fc fd)
      ∙ sym (laws.associative a k c m (combined b d) (l + n) (omega arith) fa fc (laws.combined_fits b l d n (omega arith) fb fd))

  pub same_abide_laws : AbideLaws combined combined fits
  same_abide_laws = record { down_laws = laws; across_laws = laws; abide = four }

-- ---- one of the ways by the first or the last operand

module _ {C : Type 0} {takes : List Width → Type 0} {gives : List Width → List Width} {lifted : List ℤ → C} {finished : C → List ℤ} {fits : C → ℕ → Type 0} {combined : C → C → C}
    (lifts : LiftLaws takes gives lifted finished fits) (laws : CombineLaws combined fits) where
  first_laws : CombineLaws (λ a b. a) fits
  first_laws = record {
    combined_fits = λ a m b n few fa fb. lifts.grows a m (m + n) (omega arith) fa;
    associative = λ a l b m c n few fa fb fc. refl;
  }

  last_laws : CombineLaws (λ a b. b) fits
  last_laws = record {
    combined_fits = λ a m b n few fa fb. lifts.grows b n (m + n) (omega arith) fb;
    associative = λ a l b m c n few fa fb fc. refl;
  }

  pub first_down_abide_laws : AbideLaws (λ a b. a) combined fits
  first_down_abide_laws = record { down_laws = first_laws; across_laws = laws; abide = λ a k b l c m d n few fa fb fc fd. refl }

  pub last_down_abide_laws : AbideLaws (λ a b. b) combined fits
  last_down_abide_laws = record { down_laws = last_laws; across_laws = laws; abide = λ a k b l c m d n few fa fb fc fd. refl }

  pub first_across_abide_laws : AbideLaws combined (λ a b. a) fits
  first_across_abide_laws = record { down_laws = laws; across_laws = first_laws; abide = λ a k b l c m d n few fa fb fc fd. refl }

  pub last_across_abide_laws : AbideLaws combined (λ a b. b) fits
  last_across_abide_laws = record { down_laws = laws; across_laws = last_laws; abide = λ a k b l c m d n few fa fb fc fd. refl }
