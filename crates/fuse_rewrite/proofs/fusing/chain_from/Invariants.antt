use Rattle.std.proofs.Common.{◌≡◌, ◌-◌, ◌++◌, map}
use Rattle.std.specs.Prelude.{reverse}
use Rattle.script_lang.specs.Views.{statement_of}
use Rattle.fuse_rewrite.specs.Uses.{Uses}
use Rattle.fuse_rewrite.specs.Steps.{chain_to}
use Rattle.fuse_rewrite.specs.Demands.{AreDemands}
use Rattle.fuse_rewrite.proofs.fusing.chain_from.Given as goal

-- the chain is what is left of it, and what was found
abbrev pub invariant-loop-i : goal.invariant-loop-i
invariant-loop-i l = (us : Uses) → AreDemands us l.demands → chain_to l.room (map statement_of l.lines) us l.n ≡ chain_to (l.room - l._i) (map statement_of l.lines) us l.next ++ reverse l.chain.items
