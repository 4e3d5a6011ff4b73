-- Least and greatest values obey the laws. What differs for the two is one lemma over the choice.
use Rattle.std.proofs.Common.{◌≡◌, ◌⊎◌, ℕ, ◌+◌, ◌≤◌, ℤ, pos, List, [], ◌∷◌, Option, Some, None, refl, ap, inl, inr, arith}
use Rattle.std.specs.Int.{int_min, int_max}
use Rattle.std.proofs.lemmas.Int.{ints, clamps}
use Rattle.op_laws.specs.declared.TheConstants.{MAX_ELEMENTS}
use Rattle.op_laws.specs.declared.width.Width.{Width}
use Rattle.op_laws.specs.declared.width.Width.TheVariants.{W64, W96, W128}
use Rattle.op_laws.specs.Widths.{FitsWidth}
use Rattle.op_laws.specs.Admits.{Admits}
use Rattle.op_laws.specs.Laws.{LiftLaws}
use Rattle.op_laws.specs.TreeLaws.{UpwardLaws, NothingLaws, DownwardLaws}
use Rattle.op_catalog.specs.Numbers.{number_of, width_of}
use Rattle.op_catalog.specs.Bounds.{IsBounded, IsInWidth}
use Rattle.op_catalog.specs.BoundLaws.{bound_lift_laws}
use Rattle.tree_aux.specs.BoundTrees.{of_both, absent, present, single_or_naught, bound_up, rose_bound_up, path_max_down}
use Rattle.tree_aux.specs.JoinedLaws.{IsJoin, joins_up_laws, joins_down_laws}

-- a choice of one of two numbers, in whatever order
pub record IsChoice (choose : ℤ → ℤ → ℤ) : Type 0 where
  pub one : (a b : ℤ) → (choose a b ≡ a) ⊎ (choose a b ≡ b)
  pub associative : (a b c : ℤ) → choose (choose a b) c ≡ choose a (choose b c)
  pub commutative : (a b : ℤ) → choose a b ≡ choose b a

pub min_choice : IsChoice int_min
min_choice = record { one = λ a b. min_one a b; associative = λ a b c. omega (arith, ints, clamps); commutative = λ a b. omega (arith, ints, clamps) }
  where
    min_one : (a b : ℤ) → (int_min a b ≡ a) ⊎ (int_min a b ≡ b)
    min_one a b = grind (arith, ints, clamps)

pub max_choice : IsChoice int_max
max_choice = record { one = λ a b. max_one a b; associative = λ a b c. omega (arith, ints, clamps); commutative = λ a b. omega (arith, ints, clamps) }
  where
    max_one : (a b : ℤ) → (int_max a b ≡ a) ⊎ (int_max a b ≡ b)
    max_one a b = grind (arith, ints, clamps)

-- an absent number, or one of the width
abbrev pub MayBeInWidth : ℕ → Option ℤ → ℕ → Type 0
MayBeInWidth W None n = Unit {0}
MayBeInWidth W (Some c) n = IsInWidth W c n

module _ (choose : ℤ → ℤ → ℤ) (choice : IsChoice choose) where
  chosen_fits : (W : ℕ) (a : ℤ) (m : ℕ) (b : ℤ) (n : ℕ) → m + n ≤ MAX_ELEMENTS → IsInWidth W a m → IsInWidth W b n → IsInWidth W (choose a b) (m + n)
  chosen_fits W a m b n few fa fb = elim (choice.one a b) as (λ _. FitsWidth (width_of W) (choose a b)) [ inl e ↦ rw e fa | inr e ↦ rw e fb ]

  is_join : (W : ℕ) → IsJoin (IsInWidth W) choose
  is_join W = record { closed = chosen_fits W; associative = choice.associative; commutative = choice.commutative }

  both_fit : (W : ℕ) (a : Option ℤ) (m : ℕ) (b : Option ℤ) (n : ℕ) → m + n ≤ MAX_ELEMENTS → MayBeInWidth W a m → MayBeInWidth W b n → MayBeInWidth W (of_both choose a b) (m + n)
  both_fit W None m None n few fa fb = tt
  both_fit W None m (Some b) n few fa fb = fb
  both_fit W (Some a) m None n few fa fb = fa
  both_fit W (Some a) m (Some b) n few fa fb = chosen_fits W a m b n few fa fb

  both_assoc : (a b c : Option ℤ) → of_both choose (of_both choose a b) c ≡ of_both choose a (of_both choose b c)
  both_assoc None b c = refl
  both_assoc (Some a) None c = refl
  both_assoc (Some a) (Some b) None = refl
  both_assoc (Some a) (Some b) (Some c) = ap Some (choice.associative a b c)

  both_comm : (a b : Option ℤ) → of_both choose a b ≡ of_both choose b a
  both_comm None None = refl
  both_comm None (Some b) = refl
  both_comm (Some a) None = refl
  both_comm (Some a) (Some b) = ap Some (choice.commutative a b)

  both_join : (W : ℕ) → IsJoin (MayBeInWidth W) (of_both choose)
  both_join W = record { closed = both_fit W; associative = both_assoc; commutative = both_comm }

  pub bound_up_laws : (W : ℕ) → UpwardLaws (IsBounded W) (λ ty. ty) (bound_up choose) (λ c. c ∷ []) (IsInWidth W) (IsInWidth W)
  bound_up_laws W = joins_up_laws (bound_lift_laws W) (is_join W) number_of (bound_lift_laws W).lifted_fits

  grown : (W : ℕ) (c : Option ℤ) (m n : ℕ) → m ≤ n → MayBeInWidth W c m → MayBeInWidth W c n
  grown W None m n le f = tt
  grown W (Some c) m n le f = f

  -- 0 is a number of each width
  naught_in : (w : Width) → FitsWidth w (pos 0)
  naught_in W64 = record { low = omega (arith, ints); high = omega (arith, ints) }
  naught_in W96 = record { low = omega (arith, ints); high = omega (arith, ints) }
  naught_in W128 = record { low = omega (arith, ints); high = omega (arith, ints) }

  finished_fits : (W : ℕ) (ty : List Width) (c : Option ℤ) (n : ℕ) → IsBounded W ty → n ≤ MAX_ELEMENTS → MayBeInWidth W c n → Admits ty (single_or_naught c)
  finished_fits W ty None n is few f = rw is.one (naught_in (width_of W), tt)
  finished_fits W ty (Some c) n is few f = rw is.one (f, tt)

  rose_lift_laws : (W : ℕ) → LiftLaws (IsBounded W) (λ ty. ty) present single_or_naught (MayBeInWidth W)
  rose_lift_laws W = record { grows = grown W; lifted_fits = (bound_lift_laws W).lifted_fits; finished_admitted = finished_fits W }

  pub rose_bound_up_laws : (W : ℕ) → UpwardLaws (IsBounded W) (λ ty. ty) (rose_bound_up choose) single_or_naught (MayBeInWidth W) (MayBeInWidth W)
  rose_bound_up_laws W = joins_up_laws (rose_lift_laws W) (both_join W) absent (λ ty e taken admitted. tt)

  pub rose_bound_nothing_laws : (W : ℕ) → NothingLaws None (rose_bound_up choose) (MayBeInWidth W)
  rose_bound_nothing_laws W = record { nothing_fits = tt; leaf_is_nothing = λ e. refl }

-- a number of w64 is one of each width
start_in : (w : Width) (c : ℤ) → FitsWidth W64 c → FitsWidth w c
start_in W64 c f = f
start_in W96 c f = record { low = omega (arith, ints, f.low); high = omega (arith, ints, f.high) }
start_in W128 c f = record { low = omega (arith, ints, f.low); high = omega (arith, ints, f.high) }

pub path_max_down_laws : (W : ℕ) → DownwardLaws (IsBounded W) (λ ty. ty) path_max_down (λ c. c ∷ []) (IsInWidth W) (IsInWidth W)
path_max_down_laws W = joins_down_laws (bound_lift_laws W) (is_join int_max max_choice W) (λ c. c) number_of number_of (λ c f. start_in (width_of W) c f)
    (bound_lift_laws W).lifted_fits (bound_lift_laws W).lifted_fits
