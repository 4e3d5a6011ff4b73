-- The laws of operators, which hold of values that stand for few elements: `fits c n` says that the value c may stand for n elements.
use Rattle.std.specs.Prelude.{◌≡◌, ℕ, ◌+◌, ◌≤◌, ℤ, List}
use Rattle.op_laws.specs.declared.TheConstants.{MAX_ELEMENTS}
use Rattle.op_laws.specs.declared.width.Width.{Width}
use Rattle.op_laws.specs.Admits.{Admits}

-- an element of a type that the operator takes
abbrev pub IsElementOf : (List Width → Type 0) → List ℤ → Type 0
IsElementOf takes e = (ty : List Width) × takes ty × Admits ty e

-- values stand for elements, and have a result
pub record LiftLaws {C : Type 0} (takes : List Width → Type 0) (gives : List Width → List Width) (lifted : List ℤ → C) (finished : C → List ℤ)
    (fits : C → ℕ → Type 0) : Type 0 where
  pub grows : (c : C) (m n : ℕ) → m ≤ n → fits c m → fits c n
  pub lifted_fits : (ty : List Width) (e : List ℤ) → takes ty → Admits ty e → fits (lifted e) 1
  pub finished_admitted : (ty : List Width) (c : C) (n : ℕ) → takes ty → n ≤ MAX_ELEMENTS → fits c n → Admits (gives ty) (finished c)

-- values of elements that follow one another become one, wherever they are cut
pub record CombineLaws {C : Type 0} (combined : C → C → C) (fits : C → ℕ → Type 0) : Type 0 where
  pub combined_fits : (a : C) (m : ℕ) (b : C) (n : ℕ) → m + n ≤ MAX_ELEMENTS → fits a m → fits b n → fits (combined a b) (m + n)
  pub associative : (a : C) (l : ℕ) (b : C) (m : ℕ) (c : C) (n : ℕ) → l + m + n ≤ MAX_ELEMENTS → fits a l → fits b m → fits c n
      → combined (combined a b) c ≡ combined a (combined b c)

-- the value of no element changes nothing, in front of a value and after it
pub record UnitLaws {C : Type 0} (nothing : C) (combined : C → C → C) (fits : C → ℕ → Type 0) : Type 0 where
  pub nothing_fits : fits nothing 0
  pub left : (a : C) (n : ℕ) → n ≤ MAX_ELEMENTS → fits a n → combined nothing a ≡ a
  pub right : (a : C) (n : ℕ) → n ≤ MAX_ELEMENTS → fits a n → combined a nothing ≡ a

-- the two values may be exchanged
pub record CommuteLaws {C : Type 0} (combined : C → C → C) (fits : C → ℕ → Type 0) : Type 0 where
  pub commutative : (a : C) (m : ℕ) (b : C) (n : ℕ) → m + n ≤ MAX_ELEMENTS → fits a m → fits b n → combined a b ≡ combined b a

-- values of the parts of a matrix become one, downwards and across, and of four parts in either order
pub record AbideLaws {C : Type 0} (down across : C → C → C) (fits : C → ℕ → Type 0) : Type 0 where
  pub down_laws : CombineLaws down fits
  pub across_laws : CombineLaws across fits
  pub abide : (a : C) (k : ℕ) (b : C) (l : ℕ) (c : C) (m : ℕ) (d : C) (n : ℕ) → k + l + m + n ≤ MAX_ELEMENTS → fits a k → fits b l → fits c m → fits d n
      → down (across a b) (across c d) ≡ across (down a c) (down b d)
