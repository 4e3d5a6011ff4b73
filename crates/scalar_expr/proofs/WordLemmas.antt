-- Numbers modulo 2^64, and their bits.
use Rattle.std.proofs.Common.{◌≡◌, ℕ, ◌+◌, ◌-◌, ◌%◌, ◌<◌, ◌^◌, ℤ, pos, negsuc, suc, ◌+ℤ◌, ◌-ℤ◌, ◌*ℤ◌, neg_ℤ, refl, ap, sym, ◌∙◌, arith, bit_and, to_z, of_z, FitsSigned}
use Rattle.std.specs.Int.{w64, w128, int_wrap, cast_signed, cast_unsigned}
use Rattle.std.proofs.lemmas.Int.{ints, to_z-of_z, SFits-int_wrap, int_wrap_fits, int_wrap-add_left, int_wrap-add_right, int_wrap-sub_right, int_wrap-mul_left, int_wrap-mul_right}
use Rattle.std.proofs.lemmas.Nat.{and_mask}
use Rattle.scalar_expr.specs.Values.{residue, bitwise}

-- the low 64 bits
negative_part : (a : ℕ) → a < 2 ^ 127 → (2 ^ 128 - suc a) % 2 ^ 64 ≡ 2 ^ 64 - 1 - a % 2 ^ 64
negative_part a h = omega arith

pub low_bits : (v : ℤ) → FitsSigned w128 v → cast_signed w64 (bit_and (cast_unsigned w128 v) 18446744073709551615) ≡ residue v
unfolding int_wrap
low_bits (pos a) f = ap (cast_signed w64) (and_mask a 64)
low_bits (negsuc a) f = ap (cast_signed w64) (and_mask (2 ^ 128 - suc a) 64 ∙ negative_part a f.sfits)

-- a number of 64 bits is its own residue
pub residue_same : (a : ℤ) → FitsSigned w64 a → residue a ≡ a
residue_same a f = int_wrap_fits w64 a f

pub residue-product : (a b : ℤ) → residue (residue a *ℤ residue b) ≡ residue (a *ℤ b)
residue-product a b = int_wrap-mul_left w64 a (residue b) ∙ int_wrap-mul_right w64 a b

pub residue-sum : (a b : ℤ) → residue (residue a +ℤ residue b) ≡ residue (a +ℤ b)
residue-sum a b = int_wrap-add_left w64 a (residue b) ∙ int_wrap-add_right w64 a b

pub residue-difference : (a b : ℤ) → residue (residue a -ℤ residue b) ≡ residue (a -ℤ b)
residue-difference a b = int_wrap-sub_right w64 (residue a) b ∙ int_wrap-add_left w64 a (neg_ℤ b)

pub bitwise_same : (f : ℕ → ℕ → ℕ) (a b : ℤ) → FitsSigned w64 a → FitsSigned w64 b → cast_signed w64 (f (cast_unsigned w64 a) (cast_unsigned w64 b)) ≡ bitwise f a b
bitwise_same f a b fa fb = ap (λ x. cast_signed w64 (f (cast_unsigned w64 x) (cast_unsigned w64 b))) (sym (residue_same a fa)) ∙ ap (λ y. cast_signed w64 (f (cast_unsigned w64 (residue a)) (cast_unsigned w64 y))) (sym (residue_same b fb))

pub bitwise-residue : (f : ℕ → ℕ → ℕ) (a b : ℤ) → bitwise f (residue a) (residue b) ≡ bitwise f a b
bitwise-residue f a b =
    ap (λ x. cast_signed w64 (f (cast_unsigned w64 x) (cast_unsigned w64 (residue (residue b))))) (residue_same (residue a) (SFits-int_wrap w64 a))
    ∙ ap (λ y. cast_signed w64 (f (cast_unsigned w64 (residue a)) (cast_unsigned w64 y))) (residue_same (residue b) (SFits-int_wrap w64 b))

pub widened : (r : ℤ) → FitsSigned w64 r → to_z w128 (of_z w128 (to_z w64 (of_z w64 r))) ≡ r
widened r f = let g : FitsSigned w128 r = omega (arith, ints) in ap (λ x. to_z w128 (of_z w128 x)) (to_z-of_z w64 r f) ∙ to_z-of_z w128 r g

-- what is made of residues, and then widened
pub of_residues : (g : ℤ → ℤ → ℤ) (a b x y r : ℤ) → FitsSigned w128 a → FitsSigned w128 b → FitsSigned w64 x → FitsSigned w64 y → FitsSigned w64 r
    → x ≡ residue (to_z w128 (of_z w128 a)) → y ≡ residue (to_z w128 (of_z w128 b)) → r ≡ g (to_z w64 (of_z w64 x)) (to_z w64 (of_z w64 y)) → g (residue a) (residue b) ≡ g a b
    → to_z w128 (of_z w128 (to_z w64 (of_z w64 r))) ≡ g a b
of_residues g a b x y r fa fb fx fy fr ex ey er same =
    widened r fr ∙ er ∙ ap (λ u. g u (to_z w64 (of_z w64 y))) (to_z-of_z w64 x fx ∙ ex ∙ ap residue (to_z-of_z w128 a fa))
    ∙ ap (g (residue a)) (to_z-of_z w64 y fy ∙ ey ∙ ap residue (to_z-of_z w128 b fb)) ∙ same
