-- The open places of a preorder. At the start one is open; a node takes one and opens one for each of its children.
use Rattle.std.specs.Prelude.{◌≡◌, ℕ, zero, suc, ◌+◌, ◌<◌, Bool, true, false, List, [], ◌∷◌, length, take}

-- the places open after nodes with these numbers of children, where so many were open before; once none is open, none is opened
abbrev pub open_after : ℕ → List ℕ → ℕ
open_after zero cs = 0
open_after (suc k) [] = suc k
open_after (suc k) (c ∷ cs) = open_after (k + c) cs

-- the nodes before place i already close the tree, and no fewer do
pub record IsClosedAt (cs : List ℕ) (i : ℕ) : Type 0 where
  pub within : i < length cs
  pub closed : open_after 1 (take i cs) ≡ 0
  pub first : (j : ℕ) → j < i → 0 < open_after 1 (take j cs)

-- all the nodes leave an open place
abbrev pub IsShort : List ℕ → Type 0
IsShort cs = 0 < open_after 1 cs

-- the last node closes the tree, and none before it does
pub record IsWhole (cs : List ℕ) : Type 0 where
  pub closed : open_after 1 cs ≡ 0
  pub first : (j : ℕ) → j < length cs → 0 < open_after 1 (take j cs)

-- how many children a node of a binary tree with this mark has
abbrev pub arity : Bool → ℕ
arity true = 0
arity false = 2
