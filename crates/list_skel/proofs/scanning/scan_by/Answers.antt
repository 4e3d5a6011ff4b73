use Rattle.std.proofs.Common.{◌≡◌, Option, None, length, ap, ◌∙◌}
use Rattle.std.specs.List.{All}
use Rattle.op_laws.specs.Admits.{Admits}
use Rattle.list_fusion.specs.Pipes.{type_of}
use Rattle.list_skel.proofs.CutLemmas.{All-blocks}
use Rattle.list_skel.proofs.scanning.scan_by.Goals as goal

pub outers-requires-clause-count : goal.outers-requires-clause-count
outers-requires-clause-count g c = ap length c.as_slice.ensures.value ∙ c.in_ok-folds.ensures.count

pub outers-requires-clause-folds : goal.outers-requires-clause-folds
outers-requires-clause-folds g c = rw c.as_slice.ensures.value c.in_ok-folds.ensures.each

pub invariant_of-second-clause-many : goal.invariant_of-second-clause-many
invariant_of-second-clause-many g c = ap length c.as_slice-held.ensures.value ∙ c.in_ok-outers.ensures.count

pub invariant_of-second-clause-admitted : goal.invariant_of-second-clause-admitted
invariant_of-second-clause-admitted g c =
    let p = c.args.pipe.now in
    let parts = c.blocks_follow.ensures p in
    let b = c.of-blocks.result in
    All-blocks (Admits (type_of p)) p parts b.len b.block b.count b.covers (λ i within. (c.in_ok-folds.ensures.each i None within).admitted)

pub invariant_of-second-clause-outers : goal.invariant_of-second-clause-outers
invariant_of-second-clause-outers g c = rw c.as_slice-held.ensures.value c.in_ok-outers.ensures.outers

pub whole-requires-clause-count : goal.whole-requires-clause-count
whole-requires-clause-count g c = ap length c.as_slice-2.ensures.value ∙ c.in_ok-lists.ensures.count

pub whole-requires-clause-scans : goal.whole-requires-clause-scans
whole-requires-clause-scans g c = rw c.as_slice-2.ensures.value c.in_ok-lists.ensures.each
