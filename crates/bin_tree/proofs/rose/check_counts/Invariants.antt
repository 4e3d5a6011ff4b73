use Rattle.std.proofs.Common.{◌≡◌, ℕ, ◌+◌, ◌*◌, ◌<◌, ◌≤◌, take}
use Rattle.bin_tree.specs.Places.{open_after}
use Rattle.bin_tree.proofs.rose.check_counts.Given as goal

abbrev pub invariant-loop-i : goal.invariant-loop-i
invariant-loop-i l = record {
  open_is : l.places ≡ open_after 1 (take l.i l.counts);
  before : (j : ℕ) → j < l.i → 0 < open_after 1 (take j l.counts);
  few : l.places ≤ 4294967296 * l.i + 1;
}
