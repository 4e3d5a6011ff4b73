-- Scans of a list: for each element what stands up to it, or from it on, comes to.
use Rattle.std.specs.Prelude.{ℤ, Bool, if◌then◌else◌, List, [], Option, Some, None}
use Rattle.op_laws.specs.Folds.{fold_of, beside}
use Rattle.op_laws.specs.Lists.{scanned, scanned_back}

-- the element that a fold stands for; there is none where there was no element
abbrev pub result_of : {C : Type 0} → (C → List ℤ) → Option C → List ℤ
result_of finished None = []
result_of finished (Some c) = finished c

module _ {C : Type 0} (finished : C → List ℤ) (lifted : List ℤ → C) (combined : C → C → C) where
  -- the finished folds of the prefixes, what stood before in front of each
  abbrev pub scan_after : Option C → List (List ℤ) → List (List ℤ)
  scan_after before es = scanned (λ front. result_of finished (beside combined before (fold_of lifted combined front))) es

  -- the finished folds of the suffixes, what stands behind after each
  abbrev pub scanr_before : Option C → List (List ℤ) → List (List ℤ)
  scanr_before behind es = scanned_back (λ rest. result_of finished (beside combined (fold_of lifted combined rest) behind)) es

  -- one of the two
  abbrev pub scan_beside : Bool → Option C → List (List ℤ) → List (List ℤ)
  scan_beside back held es = if back then scanr_before held es else scan_after held es
