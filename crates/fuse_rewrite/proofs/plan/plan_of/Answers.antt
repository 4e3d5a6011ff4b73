use Rattle.std.proofs.Common.{◌≡◌, ◌+◌, ◌<◌, ◌≤◌, length, map, drop, Some, arith}
use Rattle.std.specs.Prelude.{slice_get}
use Rattle.std.specs.Option.{option_to_list}
use Rattle.std.proofs.lemmas.List.{length-map, drop_all}
use Rattle.script_lang.specs.Views.{statement_of}
use Rattle.fuse_rewrite.specs.Uses.{all_uses}
use Rattle.fuse_rewrite.specs.Steps.{steps_of}
use Rattle.fuse_rewrite.proofs.LoopLemmas.{line_is, drop_at}
use Rattle.fuse_rewrite.proofs.StepLemmas.{steps_next, steps_done}
use Rattle.fuse_rewrite.proofs.plan.plan_of.Goals as goal

pub loop-n-preserved : goal.loop-n-preserved
loop-n-preserved c =
    let ls = map statement_of c.args.script.now in
    let us = all_uses ls in
    let line = statement_of c.index-lines-n.result in
    let lt : c.loop-n.n < length c.args.script.now = omega arith in
    let here : slice_get ls c.loop-n.n ≡ Some line = line_is c.args.script.now c.loop-n.n c.index-lines-n.result lt (rw c.as_slice-lines.ensures.lines at c.index-lines-n.is) in
    let step = rw c.as_slice-lines.ensures.lines at (c.in_ok-step.ensures us (rw c.deref.ensures.value c.in_ok-demands.ensures.demands)) in
    rw c.in_ok-add_step.ensures
    (steps_next ls us c.loop-n.n line (drop c.loop-n.n ls) (drop (c.loop-n.n + 1) ls) c.loop-n.steps.items (option_to_list c.in_ok-step.step) (steps_of ls)
    (drop_at ls c.loop-n.n line here) step c.loop-n.invariant)

pub returns : goal.returns
returns c =
    let ls = map statement_of c.args.script.now in
    let le : length ls ≤ c.loop-n.n = rw (length-map c.args.script.now statement_of) (omega arith) in
    steps_done ls (all_uses ls) c.loop-n.n (drop c.loop-n.n ls) c.loop-n.steps.items (steps_of ls) (drop_all c.loop-n.n ls le) c.loop-n.invariant
