use Rattle.std.proofs.Common.{◌∙◌, map}
use Rattle.script_lang.specs.Views.{binding_of, skeleton_of, statement_of}
use Rattle.fuse_rewrite.proofs.StepLemmas.{step_is, step_none}
use Rattle.fuse_rewrite.proofs.plan.step_at.Goals as goal

pub returns-in_ok-chain-in-Let : goal.returns-in_ok-chain-in-Let
returns-in_ok-chain-in-Let c us are =
    let chain = c.new.ensures.chain ∙ (c.in_ok-chain-in-Let.ensures us are) in
    rw c.in-Let.is (step_is (map statement_of c.args.lines.now) us c.args.n (binding_of c.in-Let.bound) (skeleton_of c.in-Let.skel) c.demand_at.result c.is_kept.result c.new.result
    (c.demand_at.ensures us are) c.is_kept.ensures c.if-is_kept.true c.new.ensures.line (rw c.arguments_of.ensures.last at chain))

pub returns-else-is_kept : goal.returns-else-is_kept
returns-else-is_kept c us are =
    rw c.in-Let.is (step_none (map statement_of c.args.lines.now) us c.args.n (binding_of c.in-Let.bound) (skeleton_of c.in-Let.skel) c.demand_at.result c.is_kept.result
    (c.demand_at.ensures us are) c.is_kept.ensures c.if-is_kept.false)
