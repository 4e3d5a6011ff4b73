use Rattle.std.proofs.Common.{◌≡◌, ◌<◌, ◌^◌, length, ap, ◌∙◌, arith, refl}
use Rattle.op_laws.specs.Elements.{Elements}
use Rattle.fuse_rewrite.specs.Meaning.{list_at}
use Rattle.script_run.proofs.PipeLemmas.{iota_admitted}
use Rattle.script_run.proofs.head.of_places.Goals as goal

pub returns : goal.returns
returns c =
    let n = length (list_at c.args.table.now c.args.x).items in
    let is : c.len.result ≡ n = c.len.ensures ∙ ap (λ (e : Elements). length e.items) c.list_at.ensures.value in
    let few : n < 2 ^ 32 = omega (arith, is, c.len.type_inv) in
    let flow = rw is at c.of.ensures in
    rw flow (record { items = refl; ty = refl; admitted = iota_admitted n few })
