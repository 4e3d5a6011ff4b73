use Rattle.std.proofs.Common.{◌≡◌, ℕ, ◌-◌, ◌<◌, length, get_or, pos, []}
use Rattle.list_fusion.specs.Heads.{head_of}
use Rattle.list_fusion.specs.Columnar.{place_of}
use Rattle.list_fusion.proofs.head.Head.load.Given as goal

abbrev pub invariant-loop-k : goal.invariant-loop-k
invariant-loop-k l = record {
  long : length l.columns ≡ 4;
  done : (k : ℕ) → k < l.k → (j : ℕ) → j < l.to - l.from → get_or (get_or l.columns k []) j (pos 0) ≡ get_or (get_or (head_of l.self).items (place_of l.reversed l.from l.to j) []) k (pos 0);
}
