-- Operators bit by bit obey the laws. What they share is proved once, of an operator that joins each bit of two numbers by a lawful operator on bits.
use Rattle.std.proofs.Common.{◌≡◌, ℕ, ◌+◌, ◌%◌, ◌^◌, ◌<◌, ◌==◌, min, max, Bool, true, false, ◌&&◌, ◌||◌, not, ℤ, pos, negsuc, bit_and, bit_or, bit_xor, refl, ap, sym, ◌∙◌, arith}
use Rattle.std.specs.Int.{w64, bit_at, cast_signed, cast_unsigned, int_bit_and, int_bit_or, int_bit_xor}
use Rattle.std.proofs.lemmas.Int.{ints, to_z-of_z, of_z-to_z}
use Rattle.std.proofs.lemmas.Nat.{and_le_l, or_lt, xor_lt}
use Rattle.std.proofs.lemmas.Nat.Bits.{bit_at-lt, bit_at_and, bit_at_or, bit_at_xor, bit_at-zero, bit_at_ones, same_from_bits_below}
use Rattle.std.proofs.lemmas.Bool.Decides.{nat_tests}
use Rattle.op_laws.specs.declared.width.Width.TheVariants.{W64}
use Rattle.op_laws.specs.Widths.{FitsWidth}
use Rattle.op_laws.specs.Laws.{CombineLaws, UnitLaws, CommuteLaws}
use Rattle.op_catalog.specs.Words.{IsWord}
use Rattle.op_catalog.specs.Bits.{is_set}
use Rattle.op_catalog.specs.WordLaws.{FitsSigned-word}

-- ---- numbers and their bits

unsigned_small : (x : ℤ) → FitsWidth W64 x → cast_unsigned w64 x < 2 ^ 64
unsigned_small x f = omega (arith, ints, f.low, f.high)

pub signed_fits : (n : ℕ) → n < 2 ^ 64 → FitsWidth W64 (cast_signed w64 n)
signed_fits n small = record { low = omega (arith, ints); high = omega (arith, ints) }

bit_same : (m n : ℕ) → m < 2 → n < 2 → (m == 1) ≡ (n == 1) → m ≡ n
bit_same m n p q h = grind (arith, nat_tests)

-- numbers of w64 with the same bits are equal
pub same_words : (a b : ℤ) → FitsWidth W64 a → FitsWidth W64 b → ((k : ℕ) → k < 64 → is_set k a ≡ is_set k b) → a ≡ b
same_words a b fa fb same =
    let m = cast_unsigned w64 a in
    let n = cast_unsigned w64 b in
    let equal : m ≡ n = same_from_bits_below 64 m n (unsigned_small a fa) (unsigned_small b fb) (λ k within. bit_same (bit_at m k) (bit_at n k) (bit_at-lt m k) (bit_at-lt n k) (same k within)) in
    sym (to_z-of_z w64 a (FitsSigned-word a fa)) ∙ ap (cast_signed w64) equal ∙ to_z-of_z w64 b (FitsSigned-word b fb)

-- the bits of a number that is below 2^64 before it gets its sign
pub is_set-signed : (k n : ℕ) → n < 2 ^ 64 → is_set k (cast_signed w64 n) ≡ (bit_at n k == 1)
is_set-signed k n small = ap (λ m. bit_at m k == 1) (of_z-to_z w64 n small)

-- ---- an operator on numbers that joins their bits

-- `op` joins each bit of two numbers by `join`, and `nothing` has the bit `one` everywhere, which changes no bit
pub record IsBitwise (op : ℤ → ℤ → ℤ) (nothing : ℤ) (join : Bool → Bool → Bool) (one : Bool) : Type 0 where
  pub closed : (a b : ℤ) → FitsWidth W64 a → FitsWidth W64 b → FitsWidth W64 (op a b)
  pub bits : (k : ℕ) (a b : ℤ) → FitsWidth W64 a → FitsWidth W64 b → is_set k (op a b) ≡ join (is_set k a) (is_set k b)
  pub nothing_fits : FitsWidth W64 nothing
  pub nothing_bits : (k : ℕ) → k < 64 → is_set k nothing ≡ one
  pub assoc : (p q r : Bool) → join (join p q) r ≡ join p (join q r)
  pub left : (p : Bool) → join one p ≡ p
  pub right : (p : Bool) → join p one ≡ p
  pub comm : (p q : Bool) → join p q ≡ join q p

module _ {op : ℤ → ℤ → ℤ} {nothing : ℤ} {join : Bool → Bool → Bool} {one : Bool} (laws : IsBitwise op nothing join one) where
  bitwise_assoc : (a b c : ℤ) → FitsWidth W64 a → FitsWidth W64 b → FitsWidth W64 c → op (op a b) c ≡ op a (op b c)
  bitwise_assoc a b c fa fb fc =
      same_words (op (op a b) c) (op a (op b c)) (laws.closed (op a b) c (laws.closed a b fa fb) fc) (laws.closed a (op b c) fa (laws.closed b c fb fc)) (λ k within.
      laws.bits k (op a b) c (laws.closed a b fa fb) fc
      ∙ ap (λ p. join p (is_set k c)) (laws.bits k a b fa fb)
      ∙ laws.assoc (is_set k a) (is_set k b) (is_set k c)
      ∙ ap (join (is_set k a)) (sym (laws.bits k b c fb fc))
      ∙ sym (laws.bits k a (op b c) fa (laws.closed b c fb fc)))

  pub bitwise_combine_laws : CombineLaws op IsWord
  bitwise_combine_laws = record {
    combined_fits = λ a m b n few fa fb. laws.closed a b fa fb;
    associative = λ a l b m c n few fa fb fc. bitwise_assoc a b c fa fb fc;
  }

  pub bitwise_unit_laws : UnitLaws nothing op IsWord
  bitwise_unit_laws = record {
    nothing_fits = laws.nothing_fits;
    left = λ a n few f. same_words (op nothing a) a (laws.closed nothing a laws.nothing_fits f) f (λ k within.
        laws.bits k nothing a laws.nothing_fits f ∙ ap (λ p. join p (is_set k a)) (laws.nothing_bits k within) ∙ laws.left (is_set k a));
    right = λ a n few f. same_words (op a nothing) a (laws.closed a nothing f laws.nothing_fits) f (λ k within.
        laws.bits k a nothing f laws.nothing_fits ∙ ap (join (is_set k a)) (laws.nothing_bits k within) ∙ laws.right (is_set k a));
  }

  pub bitwise_commute_laws : CommuteLaws op IsWord
  bitwise_commute_laws = record {
    commutative = λ a m b n few fa fb. same_words (op a b) (op b a) (laws.closed a b fa fb) (laws.closed b a fb fa) (λ k within.
        laws.bits k a b fa fb ∙ laws.comm (is_set k a) (is_set k b) ∙ sym (laws.bits k b a fb fa));
  }

-- ---- the three

-- of two bits the one is 1 and the other isn't
abbrev pub differ : Bool → Bool → Bool
differ true q = not q
differ false q = q

min_bits : (m n : ℕ) → m < 2 → n < 2 → (min m n == 1) ≡ ((m == 1) && (n == 1))
min_bits m n p q = grind (arith, nat_tests)

max_bits : (m n : ℕ) → m < 2 → n < 2 → (max m n == 1) ≡ ((m == 1) || (n == 1))
max_bits m n p q = grind (arith, nat_tests)

sum_bits : (m n : ℕ) → m < 2 → n < 2 → ((m + n) % 2 == 1) ≡ differ (m == 1) (n == 1)
sum_bits m n p q = grind (arith, nat_tests)

pub and_bits : IsBitwise (int_bit_and w64) (negsuc 0) ◌&&◌ true
and_bits = record {
  closed = λ a b fa fb. signed_fits _ (omega (arith, and_le_l (cast_unsigned w64 a) (cast_unsigned w64 b), unsigned_small a fa));
  bits = λ k a b fa fb.
      let m = cast_unsigned w64 a in
      let n = cast_unsigned w64 b in
      let small : bit_and m n < 2 ^ 64 = omega (arith, and_le_l m n, unsigned_small a fa) in
      is_set-signed k (bit_and m n) small ∙ ap (λ t. t == 1) (bit_at_and m n k) ∙ min_bits (bit_at m k) (bit_at n k) (bit_at-lt m k) (bit_at-lt n k);
  nothing_fits = record { low = omega (arith, ints); high = omega (arith, ints) };
  nothing_bits = λ k within. ap (λ t. t == 1) (bit_at_ones 64 k within);
  assoc = λ p q r. elim p as (λ p. ((p && q) && r) ≡ (p && (q && r))) [ true ↦ refl | false ↦ refl ];
  left = λ p. refl;
  right = λ p. elim p as (λ p. (p && true) ≡ p) [ true ↦ refl | false ↦ refl ];
  comm = λ p q. elim p as (λ p. (p && q) ≡ (q && p))
      [ true ↦ elim q as (λ q. q ≡ (q && true)) [ true ↦ refl | false ↦ refl ] | false ↦ elim q as (λ q. false ≡ (q && false)) [ true ↦ refl | false ↦ refl ] ];
}

pub or_bits : IsBitwise (int_bit_or w64) (pos 0) ◌||◌ false
or_bits = record {
  closed = λ a b fa fb. signed_fits _ (or_lt 64 (cast_unsigned w64 a) (cast_unsigned w64 b) (unsigned_small a fa) (unsigned_small b fb));
  bits = λ k a b fa fb.
      let m = cast_unsigned w64 a in
      let n = cast_unsigned w64 b in
      is_set-signed k (bit_or m n) (or_lt 64 m n (unsigned_small a fa) (unsigned_small b fb)) ∙ ap (λ t. t == 1) (bit_at_or m n k) ∙ max_bits (bit_at m k) (bit_at n k) (bit_at-lt m k) (bit_at-lt n k);
  nothing_fits = record { low = omega (arith, ints); high = omega (arith, ints) };
  nothing_bits = λ k within. ap (λ t. t == 1) (bit_at-zero k);
  assoc = λ p q r. elim p as (λ p. ((p || q) || r) ≡ (p || (q || r))) [ true ↦ refl | false ↦ refl ];
  left = λ p. refl;
  right = λ p. elim p as (λ p. (p || false) ≡ p) [ true ↦ refl | false ↦ refl ];
  comm = λ p q. elim p as (λ p. (p || q) ≡ (q || p))
      [ true ↦ elim q as (λ q. true ≡ (q || true)) [ true ↦ refl | false ↦ refl ] | false ↦ elim q as (λ q. q ≡ (q || false)) [ true ↦ refl | false ↦ refl ] ];
}

pub xor_bits : IsBitwise (int_bit_xor w64) (pos 0) differ false
xor_bits = record {
  closed = λ a b fa fb. signed_fits _ (xor_lt 64 (cast_unsigned w64 a) (cast_unsigned w64 b) (unsigned_small a fa) (unsigned_small b fb));
  bits = λ k a b fa fb.
      let m = cast_unsigned w64 a in
      let n = cast_unsigned w64 b in
      is_set-signed k (bit_xor m n) (xor_lt 64 m n (unsigned_small a fa) (unsigned_small b fb)) ∙ ap (λ t. t == 1) (bit_at_xor m n k) ∙ sum_bits (bit_at m k) (bit_at n k) (bit_at-lt m k) (bit_at-lt n k);
  nothing_fits = record { low = omega (arith, ints); high = omega (arith, ints) };
  nothing_bits = λ k within. ap (λ t. t == 1) (bit_at-zero k);
  assoc = λ p q r. elim p as (λ p. differ (differ p q) r ≡ differ p (differ q r))
      [ true ↦ elim q as (λ q. differ (not q) r ≡ not (differ q r)) [ true ↦ elim r as (λ r. r ≡ not (not r)) [ true ↦ refl | false ↦ refl ] | false ↦ refl ] | false ↦ refl ];
  left = λ p. refl;
  right = λ p. elim p as (λ p. differ p false ≡ p) [ true ↦ refl | false ↦ refl ];
  comm = λ p q. elim p as (λ p. differ p q ≡ differ q p)
      [ true ↦ elim q as (λ q. not q ≡ differ q true) [ true ↦ refl | false ↦ refl ] | false ↦ elim q as (λ q. q ≡ differ q false) [ true ↦ refl | false ↦ refl ] ];
}
