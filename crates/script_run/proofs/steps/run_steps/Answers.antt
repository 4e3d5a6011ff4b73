use Rattle.std.proofs.Common.{◌≡◌, ◌+◌, ◌-◌, List, [], ◌∷◌, ◌++◌, Some, length, map, take, drop, ap, ◌∙◌, subst, arith, length-drop}
use Rattle.std.specs.Prelude.{slice_set}
use Rattle.std.proofs.lemmas.List.{take_all, drop_all, length-map, length-set}
use Rattle.std.proofs.lemmas.Option.{slice_get_within}
use Rattle.script_lang.specs.Syntax.{binds_let}
use Rattle.script_lang.specs.Views.{statement_of}
use Rattle.fuse_rewrite.specs.Steps.{Kept}
use Rattle.fuse_rewrite.specs.Meaning.{values_of_script}
use Rattle.script_run.specs.Runs.{taken_by, value_of_step}
use Rattle.script_run.specs.Needs.{AreHeld, Holds, all_dropped}
use Rattle.script_run.proofs.StepLemmas.{runnable, makes_value}
use Rattle.script_run.proofs.NeedLemmas.{is_next, held_more, held_still, drops_long}
use Rattle.script_run.proofs.steps.run_steps.Goals as goal

pub run_step-requires-clause-runnable : goal.run_step-requires-clause-runnable
run_step-requires-clause-runnable g c κs within =
    let steps = c.args.steps.now in
    let lines = map statement_of c.args.lines.now in
    let i = c.loop-i.i in
    let s = c.index-steps-i.result in
    let next = is_next steps i s c.loop-i-test.true c.index-steps-i.is in
    let sections = c.requires.held.0 in
    let holds = c.loop-i.invariant.held sections c.requires.held.1 in
    let held = subst (λ (ks : List Kept). AreHeld lines (take i steps) ks (values_of_script sections lines) c.loop-i.table) next.first holds.held in
    runnable c.args.lines.now sections c.requires.typed holds.fits c.requires.small (take i steps) s (drop (i + 1) steps) c.loop-i.table held (c.requires.linked i s next.at)

pub run_step-requires-clause-within : goal.run_step-requires-clause-within
run_step-requires-clause-within g c κs within =
    let i = c.loop-i.i in
    let s = c.index-steps-i.result in
    let next = is_next c.args.steps.now i s c.loop-i-test.true c.index-steps-i.is in
    let linked = c.requires.linked i s next.at in
    let lt = slice_get_within (map statement_of c.args.lines.now) s.line (binds_let linked.0 linked.1) linked.2 in
    let same = length-map c.args.lines.now statement_of in
    let long = c.loop-i.invariant.long in
    omega arith

pub loop-i-preserved : goal.loop-i-preserved
loop-i-preserved g c =
    let steps = c.args.steps.now in
    let lines = map statement_of c.args.lines.now in
    let i = c.loop-i.i in
    let s = c.index-steps-i.result in
    let to_come = drop (i + 1) steps in
    let next = is_next steps i s c.loop-i-test.true c.index-steps-i.is in
    let linked = c.requires.linked i s next.at in
    let lt = slice_get_within lines s.line (binds_let linked.0 linked.1) linked.2 in
    let same = length-map c.args.lines.now statement_of in
    let long = c.loop-i.invariant.long in
    let v = value_of_step lines c.loop-i.table s in
    let rest : take (length steps - (i + 1)) to_come ≡ to_come = take_all (length steps - (i + 1)) to_come (omega (arith, length-drop (i + 1) steps)) in
    let drops = all_dropped lines to_come (taken_by lines s) in
    let after : c.drop_taken.new.table ≡ drops (slice_set c.loop-i.table s.line (Some v))
    = c.drop_taken.ensures ∙ (ap (λ (ks : List Kept). all_dropped lines ks (taken_by lines s) c.run_step.new.table) rest ∙ ap drops c.in_ok-run_step.ensures) in
    record {
      long = rw after (drops_long lines to_come (taken_by lines s) (slice_set c.loop-i.table s.line (Some v)) ∙ (length-set c.loop-i.table s.line (Some v) ∙ long));
      held = λ sections first.
          let values = values_of_script sections lines in
          let holds = c.loop-i.invariant.held sections first in
          let before = subst (λ (ks : List Kept). AreHeld lines (take i steps) ks values c.loop-i.table) next.first holds.held in
          let is = makes_value c.args.lines.now sections c.requires.typed holds.fits c.requires.small (take i steps) s to_come c.loop-i.table before linked in
          let made = held_more lines (take i steps) s to_come values c.loop-i.table v before (omega arith) is in
          let still = held_still lines (take i steps ++ s ∷ []) to_come (taken_by lines s) values (slice_set c.loop-i.table s.line (Some v)) made in
          record { fits = holds.fits; held = rw (after, next.last) still };
    }

pub returns : goal.returns
returns g c sections first =
    let steps = c.args.steps.now in
    let lines = map statement_of c.args.lines.now in
    let done = take_all c.loop-i.i steps c.loop-i-test.false in
    let rest : drop c.loop-i.i steps ≡ [] = drop_all c.loop-i.i steps c.loop-i-test.false in
    subst (λ (ks : List Kept). Holds lines ks [] sections c.loop-i.table) done (subst (λ (ks : List Kept). Holds lines (take c.loop-i.i steps) ks sections c.loop-i.table) rest (c.loop-i.invariant.held sections first))
