use Rattle.std.proofs.Common.{◌≡◌, length, take}
use Rattle.list_fusion.proofs.columns.take_first.Given as goal

abbrev pub invariant-loop-k : goal.invariant-loop-k
invariant-loop-k l = record {
  long : length l.columns ≡ 4;
  done : take l.k l.columns ≡ take l.k l.stack;
}
