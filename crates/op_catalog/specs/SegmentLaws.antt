-- The sums of segments obey the laws of operators.
use Rattle.std.proofs.Common.{◌≡◌, ℕ, ◌-◌, ◌*◌, ◌+◌, ◌^◌, ◌≤◌, min, ℤ, ◌+ℤ◌, List, FitsSigned, ap, sym, ◌∙◌, arith}
use Rattle.std.specs.Int.{int_max, w128}
use Rattle.std.proofs.Math.Nat.{mul-le-mul_right}
use Rattle.std.proofs.lemmas.Int.{ints, clamps}
use Rattle.op_laws.specs.declared.TheConstants.{MAX_ELEMENTS}
use Rattle.op_laws.specs.Laws.{LiftLaws, CombineLaws, UnitLaws}
use Rattle.op_catalog.specs.declared.mss.Segments.{Segments}
use Rattle.op_catalog.specs.Sums.{IsSummed, sum_type}
use Rattle.op_catalog.specs.SumLaws.{sum_is_signed, sum_lift_laws}
use Rattle.op_catalog.specs.Segments.{segments, of_one, of_none, joined, best_of, IsShaped, IsSegmentsOf}

pub segments_same : (t t' p p' s s' b b' : ℤ) → t ≡ t' → p ≡ p' → s ≡ s' → b ≡ b' → segments t p s b ≡ segments t' p' s' b'
segments_same t t' p p' s s' b b' et ep es eb = cc

-- ---- shapes

pub IsShaped-of_one : (e : List ℤ) → IsShaped (of_one e)
IsShaped-of_one e = record {
  prefix_low = omega (arith, ints, clamps);
  suffix_low = omega (arith, ints, clamps);
  total_prefix = omega (arith, ints, clamps);
  total_suffix = omega (arith, ints, clamps);
  prefix_best = omega (arith, ints, clamps);
  suffix_best = omega (arith, ints, clamps);
}

pub IsShaped-joined : (a b : Segments) → IsShaped a → IsShaped b → IsShaped (joined a b)
IsShaped-joined a b fa fb = record {
  prefix_low = omega (arith, ints, clamps);
  suffix_low = omega (arith, ints, clamps);
  total_prefix = omega (arith, ints, clamps);
  total_suffix = omega (arith, ints, clamps);
  prefix_best = omega (arith, ints, clamps);
  suffix_best = omega (arith, ints, clamps);
}

-- ---- numbers of 128 bits

pub record AreSigned (c : Segments) : Type 0 where
  pub total : FitsSigned w128 c.total
  pub prefix : FitsSigned w128 c.prefix
  pub suffix : FitsSigned w128 c.suffix
  pub best : FitsSigned w128 c.best

-- the sums of so few numbers are numbers of 128 bits
pub segments_signed : (W : ℕ) (c : Segments) (n : ℕ) → n ≤ MAX_ELEMENTS → IsSegmentsOf W c n → AreSigned c
segments_signed W c n few f = record {
  total = sum_is_signed W _ n few (record { low = omega (arith, ints); high = omega (arith, ints) });
  prefix = sum_is_signed W _ n few (record { low = omega (arith, ints); high = omega (arith, ints) });
  suffix = sum_is_signed W _ n few (record { low = omega (arith, ints); high = omega (arith, ints) });
  best = sum_is_signed W _ n few (record { low = omega (arith, ints); high = omega (arith, ints) });
}

pub record SumsAreSigned (a b : Segments) : Type 0 where
  pub totals : FitsSigned w128 (a.total +ℤ b.total)
  pub prefix : FitsSigned w128 (a.total +ℤ b.prefix)
  pub suffix : FitsSigned w128 (a.suffix +ℤ b.total)
  pub middle : FitsSigned w128 (a.suffix +ℤ b.prefix)

-- so are the sums that joining makes
pub sums_signed : (W : ℕ) (a : Segments) (m : ℕ) (b : Segments) (n : ℕ) → m + n ≤ MAX_ELEMENTS → IsSegmentsOf W a m → IsSegmentsOf W b n → SumsAreSigned a b
sums_signed W a m b n few fa fb = record {
  totals = sum_is_signed W _ (m + n) few (record { low = omega (arith, ints); high = omega (arith, ints) });
  prefix = sum_is_signed W _ (m + n) few (record { low = omega (arith, ints); high = omega (arith, ints) });
  suffix = sum_is_signed W _ (m + n) few (record { low = omega (arith, ints); high = omega (arith, ints) });
  middle = sum_is_signed W _ (m + n) few (record { low = omega (arith, ints); high = omega (arith, ints) });
}

-- ---- the law on cuts

max_swap : (a b c : ℤ) → int_max (int_max a b) c ≡ int_max (int_max a c) b
max_swap a b c = omega (arith, ints, clamps)

max_assoc : (a b c : ℤ) → int_max (int_max a b) c ≡ int_max a (int_max b c)
max_assoc a b c = omega (arith, ints, clamps)

max_left : (a b c : ℤ) → int_max a (int_max b c) ≡ int_max b (int_max a c)
max_left a b c = omega (arith, ints, clamps)

max_six : (p q r x y z : ℤ) → int_max (int_max (int_max (int_max p q) x) r) (int_max y z) ≡ int_max (int_max p (int_max (int_max q r) y)) (int_max x z)
max_six p q r x y z =
    ap (λ m. int_max m (int_max y z)) (max_swap (int_max p q) x r)
    ∙ max_assoc (int_max (int_max p q) r) x (int_max y z)
    ∙ ap (int_max (int_max (int_max p q) r)) (max_left x y z)
    ∙ sym (max_assoc (int_max (int_max p q) r) y (int_max x z))
    ∙ ap (λ m. int_max m (int_max x z)) (ap (λ m. int_max m y) (max_assoc p q r) ∙ max_assoc p (int_max q r) y)

max_plus : (a b c : ℤ) → int_max a b +ℤ c ≡ int_max (a +ℤ c) (b +ℤ c)
max_plus a b c = omega (arith, ints, clamps)

plus_max : (a b c d : ℤ) → a +ℤ int_max b (c +ℤ d) ≡ int_max (a +ℤ b) ((a +ℤ c) +ℤ d)
plus_max a b c d = omega (arith, ints, clamps)

-- of three neighbours the best segment, whichever two are joined first: p, q and r are their own best ones, u is the suffix of the first, s, v and t are suffix, prefix and total of the second, and w is the prefix of the third
best_of_three : (p q r u s v t w : ℤ) → int_max (int_max (int_max (int_max p q) (u +ℤ v)) r) (int_max s (u +ℤ t) +ℤ w)
    ≡ int_max (int_max p (int_max (int_max q r) (s +ℤ w))) (u +ℤ int_max v (t +ℤ w))
best_of_three p q r u s v t w =
    ap (int_max (int_max (int_max (int_max p q) (u +ℤ v)) r)) (max_plus s (u +ℤ t) w)
    ∙ max_six p q r (u +ℤ v) (s +ℤ w) ((u +ℤ t) +ℤ w)
    ∙ ap (int_max (int_max p (int_max (int_max q r) (s +ℤ w)))) (sym (plus_max u v t w))

pub joined_assoc : (a b c : Segments) → joined (joined a b) c ≡ joined a (joined b c)
joined_assoc a b c =
    segments_same _ _ _ _ _ _ _ _ (omega (arith, ints)) (omega (arith, ints, clamps)) (omega (arith, ints, clamps))
    (best_of_three a.best b.best c.best a.suffix b.suffix b.prefix b.total c.prefix)

pub joined-of_none : (a : Segments) → IsShaped a → joined a of_none ≡ a
joined-of_none a f = segments_same _ _ _ _ _ _ _ _ (omega (arith, ints)) (omega (arith, ints, clamps)) (omega (arith, ints, clamps)) (omega (arith, ints, clamps))

of_none-joined : (a : Segments) → IsShaped a → joined of_none a ≡ a
of_none-joined a f = segments_same _ _ _ _ _ _ _ _ (omega (arith, ints)) (omega (arith, ints, clamps)) (omega (arith, ints, clamps)) (omega (arith, ints, clamps))

-- ---- the laws

pub segment_lift_laws : (W : ℕ) → LiftLaws (IsSummed W) (λ _. sum_type W) of_one best_of (IsSegmentsOf W)
segment_lift_laws W = record {
  grows = λ c m n le f. let more : m * 2 ^ min (W - 1) 95 ≤ n * 2 ^ min (W - 1) 95 = mul-le-mul_right _ le in record {
    low = omega (arith, ints);
    high = omega (arith, ints);
    shape = f.shape;
  };
  lifted_fits = λ ty e taken admitted. let one = (sum_lift_laws W).lifted_fits ty e taken admitted in record {
    low = omega (arith, ints, one.low);
    high = omega (arith, ints, clamps, one.low, one.high);
    shape = IsShaped-of_one e;
  };
  finished_admitted = λ ty c n taken few f. (sum_lift_laws W).finished_admitted ty c.best n taken few (record { low = omega (arith, ints); high = omega (arith, ints) });
}

pub segment_combine_laws : (W : ℕ) → CombineLaws joined (IsSegmentsOf W)
segment_combine_laws W = record {
  combined_fits = λ a m b n few fa fb. record {
    low = omega (arith, ints, clamps);
    high = omega (arith, ints, clamps);
    shape = IsShaped-joined a b fa.shape fb.shape;
  };
  associative = λ a l b m c n few fa fb fc. joined_assoc a b c;
}

pub segment_unit_laws : (W : ℕ) → UnitLaws of_none joined (IsSegmentsOf W)
segment_unit_laws W = record {
  nothing_fits = record {
    low = omega (arith, ints);
    high = omega (arith, ints);
    shape = record {
      prefix_low = omega (arith, ints);
      suffix_low = omega (arith, ints);
      total_prefix = omega (arith, ints);
      total_suffix = omega (arith, ints);
      prefix_best = omega (arith, ints);
      suffix_best = omega (arith, ints);
    };
  };
  left = λ a n few f. of_none-joined a f.shape;
  right = λ a n few f. joined-of_none a f.shape;
}
