use Rattle.std.proofs.Common.{sym, ◌∙◌}
use Rattle.list_fusion.specs.Pipes.{type_of}
use Rattle.script_lang.specs.Views.{skeleton_of}
use Rattle.script_run.proofs.PipeLemmas.{finish_passes}
use Rattle.script_run.proofs.finish.finish.Goals as goal

pub built-requires-clause-passes : goal.built-requires-clause-passes
built-requires-clause-passes g c κs within =
    let s = skeleton_of c.args.skel.now in
    (c.args.bound.now.ty, finish_passes s.head s.functions s.ops (type_of c.args.pipe.now) c.args.bound.now.ty (sym c.passes_on.ensures ∙ c.if-passes_on.true) c.requires.finishes)
