use Rattle.std.proofs.Common.{refl}
use Rattle.outside.specs.Files.{file_list}
use Rattle.outside.proofs.FileLemmas.{opened, begun, name-file_of}
use Rattle.outside.proofs.files.Files.open.Goals as goal

pub invariant_of-self : goal.invariant_of-self
invariant_of-self c = λ i e. opened _ c.args.name.now c.args.place i (rw (← c.self.view_is) at c.requires) e

pub returns-clause-after : goal.returns-clause-after
returns-clause-after c =
    let files = file_list c.self.inside.files.items in
    rw (← c.self.view_is, begun files c.args.name.now c.args.place (rw (← c.self.view_is) at c.requires)) refl

pub returns-clause-named : goal.returns-clause-named
returns-clause-named c =
    let files = file_list c.self.inside.files.items in
    rw (begun files c.args.name.now c.args.place (rw (← c.self.view_is) at c.requires)) (name-file_of files c.args.name.now)
