-- What the devices of the outside tell: counts of faults, pieces that are read, bytes that go out.
use Rattle.std.specs.Prelude.{◌≡◌, ◌≢◌, ℕ, ◌+◌, ◌≤◌, min, List, ◌++◌, length, Option, Some, None, IsSome, ⊤}

-- the greatest that a count of faults becomes; there it stays
abbrev pub greatest_count : ℕ
greatest_count = 18446744073709551615

-- a count one higher, or where it stays
abbrev pub raised : ℕ → ℕ
raised count = min (count + 1) greatest_count

-- a count of faults rose in a call: it grew, or it stands where it stays
abbrev pub Rose : ℕ → ℕ → Type 0
Rose before after = raised before ≤ after

-- no name's count fell
abbrev pub NoneFell : (List ℕ → ℕ) → (List ℕ → ℕ) → Type 0
NoneFell before after = (name : List ℕ) → before name ≤ after name

-- each name's count is one that a count can reach
abbrev pub AllCapped : (List ℕ → ℕ) → Type 0
AllCapped counts = (name : List ℕ) → counts name ≤ greatest_count

-- each other name whose content is told has the count that it had
abbrev pub OthersKept : (List ℕ → Option (List ℕ)) → List ℕ → (List ℕ → ℕ) → (List ℕ → ℕ) → Type 0
OthersKept content name before after = (other : List ℕ) → IsSome (content other) → other ≢ name → after other ≡ before other

-- the count of the started name rose, or every name's where the started one isn't told
abbrev pub RoseAt : Option (List ℕ) → (List ℕ → ℕ) → (List ℕ → ℕ) → Type 0
RoseAt None before after = (name : List ℕ) → Rose (before name) (after name)
RoseAt (Some name) before after = Rose (before name) (after name)

-- a piece was taken from the front of what was left, where that is told; it is empty just at the end
abbrev pub TakesPiece : Option (List ℕ) → Option (List ℕ) → List ℕ → Type 0
TakesPiece None after piece = ⊤
TakesPiece (Some bytes) None piece = ⊥
TakesPiece (Some bytes) (Some rest) piece = (bytes ≡ piece ++ rest) × (length piece ≡ 0 → length bytes ≡ 0)

-- these bytes went out, where the device tells what went out
abbrev pub Appends : Option (List ℕ) → Option (List ℕ) → List ℕ → Type 0
Appends None after bytes = ⊤
Appends (Some before) None bytes = ⊥
Appends (Some before) (Some after) bytes = after ≡ before ++ bytes

-- some front of these bytes went out
abbrev pub AppendsFront : Option (List ℕ) → Option (List ℕ) → List ℕ → Type 0
AppendsFront before after bytes = (front : List ℕ) × (rest : List ℕ) × (bytes ≡ front ++ rest) × Appends before after front
