-- The fold by an operator on bits has the bits that its definition tells of the whole list.
use Rattle.std.proofs.Common.{◌≡◌, ℕ, zero, suc, ◌+◌, ◌*◌, ◌-◌, ◌^◌, ◌<◌, ◌≤◌, ◌==◌, ◌%◌, cond, Bool, true, false, not, ℤ, pos, negsuc, List, [], ◌∷◌, count_by, refl, ap, sym, ◌∙◌, inl, inr, arith, zero-add}
use Rattle.std.specs.List.{fold, All}
use Rattle.std.specs.Int.{w64, bit_at, int_bit_and, int_bit_or, int_bit_xor}
use Rattle.std.proofs.Math.Nat.{two-pow-succ, eq-or-lt_of_le}
use Rattle.std.proofs.lemmas.Nat.Bits.{bit_at_cat_low, bit_at_cat_high}
use Rattle.std.proofs.lemmas.List.Sums.{sum_by-cons}
use Rattle.std.proofs.lemmas.List.Elements.{All-head, All-tail}
use Rattle.std.proofs.lemmas.Bool.Decides.{nat_tests}
use Rattle.op_laws.specs.declared.width.Width.{Width}
use Rattle.op_laws.specs.declared.width.Width.TheVariants.{W64}
use Rattle.op_laws.specs.Admits.{Admits}
use Rattle.op_laws.specs.Widths.{FitsWidth}
use Rattle.op_laws.specs.Folds.{step, fold_or}
use Rattle.op_catalog.specs.Numbers.{number_of, numbers_of}
use Rattle.op_catalog.specs.Words.{IsWordType}
use Rattle.op_catalog.specs.Bits.{is_set, set_in_all, set_in_some, set_in_odd, sum_of_bits, number_with, HasBits}
use Rattle.op_catalog.specs.WordLaws.{lifted_fits}
use Rattle.op_catalog.specs.BitLaws.{IsBitwise, same_words, signed_fits, is_set-signed, differ, and_bits, or_bits, xor_bits}

-- ---- a number from its bits

abbrev bit_of : Bool → ℕ
bit_of b = cond b 1 0

lowest : (b : Bool) → (bit_at (bit_of b) 0 == 1) ≡ b
lowest true = refl
lowest false = refl

sum_of_bits-small : (told : ℕ → Bool) (n : ℕ) → sum_of_bits told n < 2 ^ n
sum_of_bits-small told zero = omega arith
sum_of_bits-small told (suc n) =
    elim (told n) as (λ b. cond b 1 0 * 2 ^ n + sum_of_bits told n < 2 ^ suc n)
    [ true ↦ omega (arith, sum_of_bits-small told n, two-pow-succ n) | false ↦ omega (arith, sum_of_bits-small told n, two-pow-succ n) ]

bit_at-sum_of_bits : (told : ℕ → Bool) (n k : ℕ) → k < n → (bit_at (sum_of_bits told n) k == 1) ≡ told k
bit_at-sum_of_bits told zero k within = absurd (omega arith)
bit_at-sum_of_bits told (suc n) k within =
    let small = sum_of_bits-small told n in
    let le : k ≤ n = omega arith in
    elim (eq-or-lt_of_le le) as (λ _. (bit_at (bit_of (told n) * 2 ^ n + sum_of_bits told n) k == 1) ≡ told k) [
      | inl same ↦
          let none : k - n ≡ 0 = omega arith in
          ap (λ t. t == 1) (bit_at_cat_high (bit_of (told n)) n (sum_of_bits told n) k small (omega arith))
          ∙ ap (λ j. bit_at (bit_of (told n)) j == 1) none ∙ lowest (told n) ∙ ap told (sym same)
      | inr below ↦ ap (λ t. t == 1) (bit_at_cat_low (bit_of (told n)) n (sum_of_bits told n) k below) ∙ bit_at-sum_of_bits told n k below
    ]

number_with-bits : (told : ℕ → Bool) (k : ℕ) → k < 64 → is_set k (number_with told) ≡ told k
unfolding number_with
number_with-bits told k within = is_set-signed k (sum_of_bits told 64) (sum_of_bits-small told 64) ∙ bit_at-sum_of_bits told 64 k within

number_with-fits : (told : ℕ → Bool) → FitsWidth W64 (number_with told)
unfolding number_with
number_with-fits told = signed_fits (sum_of_bits told 64) (sum_of_bits-small told 64)

pub HasBits-number_with : (told : ℕ → Bool) → HasBits told (number_with told)
HasBits-number_with told = record { word = number_with-fits told; bits = number_with-bits told }

-- ---- folds

module _ {op : ℤ → ℤ → ℤ} {nothing : ℤ} {join : Bool → Bool → Bool} {one : Bool} (laws : IsBitwise op nothing join one) (told : List ℤ → ℕ → Bool)
    (none : (k : ℕ) → told [] k ≡ one) (more : (x : ℤ) (xs : List ℤ) (k : ℕ) → told (x ∷ xs) k ≡ join (is_set k x) (told xs k)) (ty : List Width) (taken : IsWordType ty) where
  fits_from : (a : ℤ) (es : List (List ℤ)) → FitsWidth W64 a → All (Admits ty) es → FitsWidth W64 (fold (step number_of op) a es)
  fits_from a [] f all = f
  fits_from a (e ∷ es) f all = fits_from (op a (number_of e)) es (laws.closed a (number_of e) f (lifted_fits ty e taken (All-head (Admits ty) e es all))) (All-tail (Admits ty) e es all)

  bits_from : (k : ℕ) (a : ℤ) (es : List (List ℤ)) → FitsWidth W64 a → All (Admits ty) es → is_set k (fold (step number_of op) a es) ≡ join (is_set k a) (told (numbers_of es) k)
  bits_from k a [] f all = sym (ap (join (is_set k a)) (none k) ∙ laws.right (is_set k a))
  bits_from k a (e ∷ es) f all =
      let x = number_of e in
      let fits = lifted_fits ty e taken (All-head (Admits ty) e es all) in
      bits_from k (op a x) es (laws.closed a x f fits) (All-tail (Admits ty) e es all)
      ∙ ap (λ p. join p (told (numbers_of es) k)) (laws.bits k a x f fits)
      ∙ laws.assoc (is_set k a) (is_set k x) (told (numbers_of es) k)
      ∙ ap (join (is_set k a)) (sym (more x (numbers_of es) k))

  pub fold_or-bits : (es : List (List ℤ)) → All (Admits ty) es → fold_or nothing number_of op es ≡ number_with (told (numbers_of es))
  fold_or-bits [] all = same_words nothing (number_with (told [])) laws.nothing_fits (number_with-fits (told []))
      (λ k within. laws.nothing_bits k within ∙ sym (none k) ∙ sym (number_with-bits (told []) k within))
  fold_or-bits (e ∷ es) all =
      let x = number_of e in
      let xs = numbers_of es in
      let fits = lifted_fits ty e taken (All-head (Admits ty) e es all) in
      let rest = All-tail (Admits ty) e es all in
      same_words _ (number_with (told (x ∷ xs))) (fits_from x es fits rest) (number_with-fits (told (x ∷ xs)))
      (λ k within. bits_from k x es fits rest ∙ sym (more x xs k) ∙ sym (number_with-bits (told (x ∷ xs)) k within))

-- ---- the three

pub fold_or-and : (ty : List Width) (es : List (List ℤ)) → IsWordType ty → All (Admits ty) es → fold_or (negsuc 0) number_of (int_bit_and w64) es ≡ number_with (set_in_all (numbers_of es))
fold_or-and ty es taken all = fold_or-bits and_bits set_in_all (λ k. refl) (λ x xs k. refl) ty taken es all

pub fold_or-or : (ty : List Width) (es : List (List ℤ)) → IsWordType ty → All (Admits ty) es → fold_or (pos 0) number_of (int_bit_or w64) es ≡ number_with (set_in_some (numbers_of es))
fold_or-or ty es taken all = fold_or-bits or_bits set_in_some (λ k. refl) (λ x xs k. refl) ty taken es all

odd_suc : (n : ℕ) → ((1 + n) % 2 == 1) ≡ not (n % 2 == 1)
odd_suc n = grind (arith, nat_tests)

odd_more : (b : Bool) (n : ℕ) → ((cond b 1 0 + n) % 2 == 1) ≡ differ b (n % 2 == 1)
odd_more true n = odd_suc n
odd_more false n = ap (λ m. m % 2 == 1) (zero-add n)

pub fold_or-xor : (ty : List Width) (es : List (List ℤ)) → IsWordType ty → All (Admits ty) es → fold_or (pos 0) number_of (int_bit_xor w64) es ≡ number_with (set_in_odd (numbers_of es))
fold_or-xor ty es taken all = fold_or-bits xor_bits set_in_odd (λ k. refl)
    (λ x xs k. ap (λ n. n % 2 == 1) (sum_by-cons (λ y. cond (is_set k y) 1 0) x xs) ∙ odd_more (is_set k x) (count_by (is_set k) xs)) ty taken es all
