-- One part taken from the stack of values that wait: words that no public clause cites.
use Rattle.std.specs.Prelude.{◌≡◌, ℕ, ◌+◌, ◌≤◌, List, [], ◌∷◌, ◌++◌}
use Rattle.op_laws.specs.declared.TheConstants.{MAX_ELEMENTS}
use Rattle.op_laws.specs.TreeFolds.{Downward}
use Rattle.bridge_contract.specs.declared.down_summary.DownSummary.{DownSummary}
use Rattle.bridge_contract.specs.declared.down_summary.DownSummary.TheVariants.{End as Ended, Both}

-- the ways of the part fit, with the weight of the value on top of the stack
abbrev pub FitsOn : {V D : Type 0} → (V → ℕ → Type 0) → (D → ℕ → Type 0) → V × ℕ → DownSummary D → Type 0
FitsOn fits fits_way top Ended = Unit {0}
FitsOn fits fits_way top (Both l r n) = (top.1 + n ≤ MAX_ELEMENTS) × fits top.0 top.1 × fits_way l n × fits_way r n

abbrev pub CanDrop : {V D : Type 0} → (V → ℕ → Type 0) → (D → ℕ → Type 0) → DownSummary D → List (V × ℕ) → Type 0
CanDrop {V} fits fits_way part stack = (rest : List (V × ℕ)) × (top : V × ℕ) × (stack ≡ rest ++ top ∷ []) × FitsOn fits fits_way top part

-- what stands on the stack in place of the value that was on top
abbrev pub placed : {A V D : Type 0} → Downward A V D → V × ℕ → DownSummary D → List (V × ℕ) → List (V × ℕ)
placed k top Ended rest = rest
placed k top (Both l r n) rest = (rest ++ (k.down top.0 r, top.1 + n) ∷ []) ++ (k.down top.0 l, top.1 + n) ∷ []

abbrev pub Drops : {A V D : Type 0} → Downward A V D → DownSummary D → List (V × ℕ) → List (V × ℕ) → V → Type 0
Drops {A} {V} k part before after value =
    (rest : List (V × ℕ)) × (top : V × ℕ) × (before ≡ rest ++ top ∷ []) × (after ≡ placed k top part rest) × (value ≡ top.0)
