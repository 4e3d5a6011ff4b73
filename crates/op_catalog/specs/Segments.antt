-- The greatest sum of a segment.
use Rattle.std.specs.Prelude.{◌≡◌, ℕ, ◌-◌, ◌*◌, ◌^◌, ◌≤◌, min, ℤ, pos, neg_ℤ, ◌+ℤ◌, ◌≤ℤ◌, List, [], ◌∷◌, length, slice_range}
use Rattle.std.specs.Int.{int_max}
use Rattle.op_catalog.specs.declared.mss.Segments.{Segments}
use Rattle.op_catalog.specs.Numbers.{number_of}
use Rattle.op_catalog.specs.Sums.{sum_of}

-- the greatest sum of a prefix, the empty one among them
abbrev pub best_prefix : List ℤ → ℤ
best_prefix [] = pos 0
best_prefix (x ∷ xs) = int_max (pos 0) (x +ℤ best_prefix xs)

-- the greatest sum of a segment, the empty one among them: of a prefix, or of a segment behind the first number
abbrev pub best_segment : List ℤ → ℤ
best_segment [] = pos 0
best_segment (x ∷ xs) = int_max (best_prefix (x ∷ xs)) (best_segment xs)

-- r is the sum of one segment xs[i..j], and no segment has a greater one
pub record IsGreatestSegment (xs : List ℤ) (r : ℤ) : Type 0 where
  pub bound : (i j : ℕ) → i ≤ j → j ≤ length xs → sum_of (slice_range xs i j) ≤ℤ r
  pub reached : (i : ℕ) × (j : ℕ) × (i ≤ j) × (j ≤ length xs) × (sum_of (slice_range xs i j) ≡ r)

-- ---- what is carried

abbrev pub segments : ℤ → ℤ → ℤ → ℤ → Segments
segments t p s b = record { total = t; prefix = p; suffix = s; best = b }

abbrev pub of_one : List ℤ → Segments
of_one e = segments (number_of e) (int_max (number_of e) (pos 0)) (int_max (number_of e) (pos 0)) (int_max (number_of e) (pos 0))

abbrev pub of_none : Segments
of_none = segments (pos 0) (pos 0) (pos 0) (pos 0)

-- the sums of a, and behind it b: a segment may lie in a, in b, or in both
abbrev pub joined : Segments → Segments → Segments
joined a b = segments (a.total +ℤ b.total) (int_max a.prefix (a.total +ℤ b.prefix)) (int_max b.suffix (a.suffix +ℤ b.total)) (int_max (int_max a.best b.best) (a.suffix +ℤ b.prefix))

abbrev pub best_of : Segments → List ℤ
best_of c = c.best ∷ []

-- the empty prefix and suffix count, so does the whole, and prefixes and suffixes are segments
pub record IsShaped (c : Segments) : Type 0 where
  pub prefix_low : pos 0 ≤ℤ c.prefix
  pub suffix_low : pos 0 ≤ℤ c.suffix
  pub total_prefix : c.total ≤ℤ c.prefix
  pub total_suffix : c.total ≤ℤ c.suffix
  pub prefix_best : c.prefix ≤ℤ c.best
  pub suffix_best : c.suffix ≤ℤ c.best

-- the sums are those of at most n numbers of W bits; of 96, where W is more
pub record IsSegmentsOf (W : ℕ) (c : Segments) (n : ℕ) : Type 0 where
  pub low : neg_ℤ (pos (n * 2 ^ min (W - 1) 95)) ≤ℤ c.total
  pub high : c.best ≤ℤ pos (n * 2 ^ min (W - 1) 95)
  pub shape : IsShaped c
