use Rattle.std.proofs.Common.{refl}
use Rattle.fuse_rewrite.specs.Meaning.{list_at}
use Rattle.script_run.proofs.PipeLemmas.{zipped_admitted}
use Rattle.script_run.proofs.head.of_two.Goals as goal

pub returns : goal.returns
returns c =
    let x = list_at c.args.table.now c.args.x in
    let y = list_at c.args.table.now c.args.y in
    let first = rw c.list_at.ensures.value at c.list_at.ensures.admitted in
    let second = rw c.list_at-2.ensures.value at c.list_at-2.ensures.admitted in
    let flow = rw (c.list_at.ensures.value, c.list_at-2.ensures.value) at c.of.ensures in
    rw flow (record { items = refl; ty = refl; admitted = zipped_admitted x.ty y.ty x.items y.items first second })
