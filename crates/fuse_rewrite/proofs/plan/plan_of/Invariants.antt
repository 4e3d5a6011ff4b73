use Rattle.std.proofs.Common.{◌≡◌, ◌++◌, map, drop}
use Rattle.script_lang.specs.Views.{statement_of}
use Rattle.fuse_rewrite.specs.Uses.{all_uses}
use Rattle.fuse_rewrite.specs.Steps.{steps_from, steps_of}
use Rattle.fuse_rewrite.proofs.plan.plan_of.Given as goal

-- the steps are those that were made, and those of the lines that are left
abbrev pub invariant-loop-n : goal.invariant-loop-n
invariant-loop-n l = l.steps.items ++ steps_from (map statement_of l.script) (all_uses (map statement_of l.script)) l.n (drop l.n (map statement_of l.script)) ≡ steps_of (map statement_of l.script)
