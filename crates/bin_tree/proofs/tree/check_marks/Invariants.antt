use Rattle.std.proofs.Common.{◌≡◌, ℕ, ◌+◌, ◌<◌, ◌≤◌, map, take}
use Rattle.bin_tree.specs.Places.{open_after, arity}
use Rattle.bin_tree.proofs.tree.check_marks.Given as goal

abbrev pub invariant-loop-i : goal.invariant-loop-i
invariant-loop-i l = record {
  open_is : l.places ≡ open_after 1 (take l.i (map arity l.leaf));
  before : (j : ℕ) → j < l.i → 0 < open_after 1 (take j (map arity l.leaf));
  few : l.places ≤ l.i + 1;
}
