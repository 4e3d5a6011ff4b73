use Rattle.std.proofs.Common.{◌≡◌, ◌≤◌, length, map, drop}
use Rattle.script_lang.specs.Views.{statement_of}
use Rattle.fuse_rewrite.specs.Uses.{uses_from}
use Rattle.fuse_rewrite.specs.Demands.{AreDemands}
use Rattle.fuse_rewrite.proofs.demand.count_uses.Given as goal

-- the uses by the lines from here on are counted
abbrev pub invariant-loop-n : goal.invariant-loop-n
invariant-loop-n l = record {
  within : l.n ≤ length l.lines;
  count : length l.demands ≡ length l.lines;
  counted : AreDemands (uses_from l.n (drop l.n (map statement_of l.lines))) l.demands;
}

abbrev pub decreases-loop-n : goal.decreases-loop-n
decreases-loop-n l = l.n
