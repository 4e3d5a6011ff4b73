-- Least and greatest numbers obey the laws of operators.
use Rattle.std.proofs.Common.{◌≡◌, ℕ, ℤ, List, [], ◌∷◌, arith}
use Rattle.std.specs.Int.{int_min, int_max}
use Rattle.std.proofs.lemmas.Int.{ints, clamps}
use Rattle.op_laws.specs.declared.width.Width.{Width}
use Rattle.op_laws.specs.declared.width.Width.TheVariants.{W64, W96, W128}
use Rattle.op_laws.specs.Admits.{Admits}
use Rattle.op_laws.specs.Widths.{FitsWidth}
use Rattle.op_laws.specs.Laws.{LiftLaws, CombineLaws, UnitLaws, CommuteLaws}
use Rattle.op_catalog.specs.Numbers.{number_of, width_of}
use Rattle.op_catalog.specs.Bounds.{bottom, top, IsBounded, IsInWidth}

lifted_fits : (W : ℕ) (ty : List Width) (e : List ℤ) → IsBounded W ty → Admits ty e → IsInWidth W (number_of e) 1
lifted_fits W ty [] is admitted = absurd (rw is.one at admitted)
lifted_fits W ty (x ∷ xs) is admitted = let fits = rw is.one at admitted in fits.0

pub bound_lift_laws : (W : ℕ) → LiftLaws (IsBounded W) (λ ty. ty) number_of (λ c. c ∷ []) (IsInWidth W)
bound_lift_laws W = record {
  grows = λ c m n le f. f;
  lifted_fits = lifted_fits W;
  finished_admitted = λ ty c n is few f. rw is.one (f, tt);
}

-- the ends of a width
bottom_fits : (w : Width) → FitsWidth w (bottom w)
bottom_fits W64 = record { low = omega (arith, ints); high = omega (arith, ints) }
bottom_fits W96 = record { low = omega (arith, ints); high = omega (arith, ints) }
bottom_fits W128 = record { low = omega (arith, ints); high = omega (arith, ints) }

top_fits : (w : Width) → FitsWidth w (top w)
top_fits W64 = record { low = omega (arith, ints); high = omega (arith, ints) }
top_fits W96 = record { low = omega (arith, ints); high = omega (arith, ints) }
top_fits W128 = record { low = omega (arith, ints); high = omega (arith, ints) }

min-top : (w : Width) (c : ℤ) → FitsWidth w c → int_min (top w) c ≡ c
min-top W64 c f = omega (arith, ints, clamps, f.high)
min-top W96 c f = omega (arith, ints, clamps, f.high)
min-top W128 c f = omega (arith, ints, clamps, f.high)

max-bottom : (w : Width) (c : ℤ) → FitsWidth w c → int_max (bottom w) c ≡ c
max-bottom W64 c f = omega (arith, ints, clamps, f.low)
max-bottom W96 c f = omega (arith, ints, clamps, f.low)
max-bottom W128 c f = omega (arith, ints, clamps, f.low)

min_swap : (a b : ℤ) → int_min a b ≡ int_min b a
min_swap a b = omega (arith, ints, clamps)

max_swap : (a b : ℤ) → int_max a b ≡ int_max b a
max_swap a b = omega (arith, ints, clamps)

pub min_combine_laws : (W : ℕ) → CombineLaws int_min (IsInWidth W)
min_combine_laws W = record {
  combined_fits = λ a m b n few fa fb. record { low = omega (arith, ints, clamps); high = omega (arith, ints, clamps) };
  associative = λ a l b m c n few fa fb fc. omega (arith, ints, clamps);
}

pub max_combine_laws : (W : ℕ) → CombineLaws int_max (IsInWidth W)
max_combine_laws W = record {
  combined_fits = λ a m b n few fa fb. record { low = omega (arith, ints, clamps); high = omega (arith, ints, clamps) };
  associative = λ a l b m c n few fa fb fc. omega (arith, ints, clamps);
}

pub min_unit_laws : (W : ℕ) → UnitLaws (top (width_of W)) int_min (IsInWidth W)
min_unit_laws W = record {
  nothing_fits = top_fits (width_of W);
  left = λ a n few f. min-top (width_of W) a f;
  right = λ a n few f. rw (min_swap a (top (width_of W))) (min-top (width_of W) a f);
}

pub max_unit_laws : (W : ℕ) → UnitLaws (bottom (width_of W)) int_max (IsInWidth W)
max_unit_laws W = record {
  nothing_fits = bottom_fits (width_of W);
  left = λ a n few f. max-bottom (width_of W) a f;
  right = λ a n few f. rw (max_swap a (bottom (width_of W))) (max-bottom (width_of W) a f);
}

pub min_commute_laws : (W : ℕ) → CommuteLaws int_min (IsInWidth W)
min_commute_laws W = record { commutative = λ a m b n few fa fb. min_swap a b }

pub max_commute_laws : (W : ℕ) → CommuteLaws int_max (IsInWidth W)
max_commute_laws W = record { commutative = λ a m b n few fa fb. max_swap a b }
