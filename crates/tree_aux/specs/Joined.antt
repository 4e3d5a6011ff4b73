-- Operators that join all values in one way: a sum, the least, the greatest.
use Rattle.std.specs.Prelude.{ℤ}
use Rattle.op_laws.specs.TreeFolds.{Upward, Downward}

-- `join` of a node's number and the values of its children; `leaf` of a leaf
abbrev pub joins_up : {A C : Type 0} → (A → C) → (A → C) → (C → C → C) → Upward A C C
joins_up leaf number join = record {
  leaf = leaf;
  phi = number;
  node = λ l g r. join (join l g) r;
  hole_left = λ h g r. join (join h g) r;
  hole_right = λ l g h. join (join l g) h;
}

-- `join` of a node's value and `left` or `right` of its number, for its children
abbrev pub joins_down : {A C : Type 0} → (ℤ → C) → (A → C) → (A → C) → (C → C → C) → Downward A C C
joins_down start left right join = record { start = start; left = left; right = right; then = join; down = join }
