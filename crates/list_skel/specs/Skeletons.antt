-- The skeletons on whole lists, for any lawful operator.
use Rattle.std.specs.Prelude.{◌≡◌, ℤ, pos, ◌+ℤ◌, Bool, if◌then◌else◌, List, [], ◌∷◌, refl}
use Rattle.op_laws.specs.Folds.{fold_of, fold_or}
use Rattle.op_laws.specs.Lists.{scanned, scanned_back}
use Rattle.list_fusion.specs.Scans.{result_of}

-- the element that the fold of a whole list stands for
abbrev pub reduce_of : {C : Type 0} → (C → List ℤ) → C → (List ℤ → C) → (C → C → C) → List (List ℤ) → List ℤ
reduce_of finished nothing lifted combined es = finished (fold_or nothing lifted combined es)

module _ {C : Type 0} (finished : C → List ℤ) (lifted : List ℤ → C) (combined : C → C → C) where
  -- the same of a list that has elements
  abbrev pub fold_result : List (List ℤ) → List ℤ
  fold_result es = result_of finished (fold_of lifted combined es)

  -- of each prefix
  abbrev pub scan_of : List (List ℤ) → List (List ℤ)
  scan_of es = scanned fold_result es

  -- of each suffix
  abbrev pub scanr_of : List (List ℤ) → List (List ℤ)
  scanr_of es = scanned_back fold_result es

  -- one of the two
  abbrev pub either_scan : Bool → List (List ℤ) → List (List ℤ)
  either_scan back es = if back then scanr_of es else scan_of es

-- worked rows, with the sum of the first numbers

abbrev first : List ℤ → ℤ
first [] = pos 0
first (x ∷ xs) = x

abbrev three : List (List ℤ)
three = (pos 1 ∷ []) ∷ (pos 2 ∷ []) ∷ (pos 4 ∷ []) ∷ []

sums : scan_of (λ c. c ∷ []) first (λ a b. a +ℤ b) three ≡ (pos 1 ∷ []) ∷ (pos 3 ∷ []) ∷ (pos 7 ∷ []) ∷ []
sums = refl

sums_from_behind : scanr_of (λ c. c ∷ []) first (λ a b. a +ℤ b) three ≡ (pos 7 ∷ []) ∷ (pos 6 ∷ []) ∷ (pos 4 ∷ []) ∷ []
sums_from_behind = refl
