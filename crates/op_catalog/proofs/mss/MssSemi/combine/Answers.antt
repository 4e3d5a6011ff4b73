use Rattle.std.proofs.Common.{FitsSigned, arith, refl}
use Rattle.std.specs.Int.{w128}
use Rattle.std.proofs.lemmas.Int.{to_z-of_z}
use Rattle.op_catalog.specs.SegmentLaws.{segments_same, segments_signed, sums_signed}
use Rattle.op_catalog.proofs.mss.MssSemi.combine.Goals as goal

pub overflow_add-result : goal.overflow_add-result
overflow_add-result g c =
    let few = c.requires.few in
    let sums = sums_signed g.row.W _ c.args._na _ c.args._nb few c.requires.first c.requires.second in
    let a = segments_signed g.row.W _ c.args._na (omega arith) c.requires.first in
    let b = segments_signed g.row.W _ c.args._nb (omega arith) c.requires.second in
    let x = a.total in let y = b.total in simp to_z-of_z sums.totals

pub larger-requires : goal.larger-requires
larger-requires g c =
    let few = c.requires.few in
    let sums = sums_signed g.row.W _ c.args._na _ c.args._nb few c.requires.first c.requires.second in
    let a = segments_signed g.row.W _ c.args._na (omega arith) c.requires.first in
    let b = segments_signed g.row.W _ c.args._nb (omega arith) c.requires.second in
    let x = a.total in let y = b.prefix in simp to_z-of_z sums.prefix

pub larger-requires-2 : goal.larger-requires-2
larger-requires-2 g c =
    let few = c.requires.few in
    let sums = sums_signed g.row.W _ c.args._na _ c.args._nb few c.requires.first c.requires.second in
    let a = segments_signed g.row.W _ c.args._na (omega arith) c.requires.first in
    let b = segments_signed g.row.W _ c.args._nb (omega arith) c.requires.second in
    let x = a.suffix in let y = b.total in simp to_z-of_z sums.suffix

pub best_joined-requires : goal.best_joined-requires
best_joined-requires g c =
    let few = c.requires.few in
    let sums = sums_signed g.row.W _ c.args._na _ c.args._nb few c.requires.first c.requires.second in
    let a = segments_signed g.row.W _ c.args._na (omega arith) c.requires.first in
    let b = segments_signed g.row.W _ c.args._nb (omega arith) c.requires.second in
    let x = a.suffix in let y = b.prefix in simp to_z-of_z sums.middle

pub returns : goal.returns
returns g c =
    let few = c.requires.few in
    let sums = sums_signed g.row.W _ c.args._na _ c.args._nb few c.requires.first c.requires.second in
    let a = segments_signed g.row.W _ c.args._na (omega arith) c.requires.first in
    let b = segments_signed g.row.W _ c.args._nb (omega arith) c.requires.second in
    let a_total = a.total in let a_prefix = a.prefix in let a_suffix = a.suffix in let a_best = a.best in
    let b_total = b.total in let b_prefix = b.prefix in let b_suffix = b.suffix in let b_best = b.best in
    let totals = sums.totals in
    let prefix : FitsSigned w128 c.larger.result = record { sfits = c.larger.type_inv } in
    let suffix : FitsSigned w128 c.larger-2.result = record { sfits = c.larger-2.type_inv } in
    let best : FitsSigned w128 c.best_joined.result = record { sfits = c.best_joined.type_inv } in
    let prefix_is = simp to_z-of_z at c.larger.ensures in
    let suffix_is = simp to_z-of_z at c.larger-2.ensures in
    let best_is = simp to_z-of_z at c.best_joined.ensures in
    simp to_z-of_z (segments_same _ _ _ _ _ _ _ _ refl prefix_is suffix_is best_is)
