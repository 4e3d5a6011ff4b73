use Rattle.std.proofs.Common.{map}
use Rattle.std.specs.Prelude.{slice_get}
use Rattle.std.proofs.lemmas.Result.{IfOk-weaker}
use Rattle.list_fusion.specs.Pipes.{type_of}
use Rattle.script_lang.specs.Views.{statement_of}
use Rattle.script_run.specs.Pipes.{type_by}
use Rattle.script_run.proofs.PipeLemmas.{one_type}
use Rattle.script_run.proofs.chain.pass_line.Goals as goal

pub pass-requires-clause-passes : goal.pass-requires-clause-passes
pass-requires-clause-passes c =
    let p = c.requires.passes in
    let same = c.skeleton_at.ensures p.bound p.skeleton p.line in
    (type_by (slice_get (map statement_of c.args.lines.now) c.args.n) (type_of c.args.pipe.now), rw same p.passes)

pub pass-requires-clause-small : goal.pass-requires-clause-small
pass-requires-clause-small c =
    let p = c.requires.passes in
    rw (c.skeleton_at.ensures p.bound p.skeleton p.line) p.small

pub returns-clause-elements : goal.returns-clause-elements
returns-clause-elements c =
    let p = c.requires.passes in
    let same = c.skeleton_at.ensures p.bound p.skeleton p.line in
    let is = rw same at c.pass.ensures.elements in
    rw p.line is

pub returns-clause-ty : goal.returns-clause-ty
returns-clause-ty c =
    let p = c.requires.passes in
    let same = c.skeleton_at.ensures p.bound p.skeleton p.line in
    let is = rw same at c.pass.ensures.ty in
    IfOk-weaker c.pass.result _ _ (λ u e. one_type p.skeleton.head p.skeleton.functions (type_of c.args.pipe.now) _ _ e p.passes) is
