-- Items of tickets.
use Rattle.std.specs.Prelude.{◌≡◌, ℕ, ◌<◌, List, [], ◌∷◌, map, slice_index_or, Option, Some, None}

module _ {X : Type 0} where
  -- x is an item of the ticket t, of which there are n
  abbrev pub Within : ℕ → (ℕ → X → Type 0) → ℕ → X → Type 0
  Within n gives t x = (t < n) × gives t x

  -- each ticket below n has f of it as its one item
  abbrev pub IsDetermined : ℕ → (ℕ → X → Type 0) → (ℕ → X) → Type 0
  IsDetermined n gives f = (t : ℕ) (x : X) → t < n → gives t x → x ≡ f t

  abbrev pub tickets_of : List (ℕ × X) → List ℕ
  tickets_of items = map (λ p. p.0) items

module _ {X : Type 0} (gives : ℕ → X → Type 0) where
  -- each item is one of its ticket
  abbrev pub AllGiven : List (ℕ × X) → Type 0
  AllGiven [] = Unit {0}
  AllGiven (p ∷ ps) = gives p.0 p.1 × AllGiven ps

  abbrev pub IsFilled : ℕ → Option X → Type 0
  IsFilled t None = ⊥
  IsFilled t (Some x) = gives t x

  -- the slot t has an item of the ticket t
  abbrev pub IsFilledAt : List (Option X) → ℕ → Type 0
  IsFilledAt slots t = (o : Option X) → IsFilled t (slice_index_or slots t o)

  -- each slot that was filled still is
  abbrev pub KeepsFilled : List (Option X) → List (Option X) → Type 0
  KeepsFilled old new = (t : ℕ) → IsFilledAt old t → IsFilledAt new t
