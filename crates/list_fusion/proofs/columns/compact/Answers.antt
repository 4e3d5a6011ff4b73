use Rattle.std.proofs.Common.{◌≡◌, get_or, pos, w64, to_z, of_z, cond, not, ap, ◌∙◌, arith, rules}
use Rattle.std.specs.Ordering.{int_eq}
use Rattle.list_fusion.proofs.ColumnLemmas.{compacted}
use Rattle.list_fusion.proofs.columns.compact.Goals as goal

pub loop-i-preserved : goal.loop-i-preserved
loop-i-preserved c =
    let column = c.loop-i.column in
    let flags = c.args.flags.now in
    let i = c.loop-i.i in
    let inv = c.loop-i.invariant in
    let same : to_z w64 (of_z w64 (get_or column i (pos 0))) ≡ get_or column i (pos 0) = search rules in
    let read : to_z w64 (of_z w64 (get_or flags i (pos 0))) ≡ get_or flags i (pos 0) = search rules in
    let next = compacted c.args.column.now flags column c.loop-i.kept i c.is_set-kept.result (to_z w64 (of_z w64 (get_or column i (pos 0)))) (omega arith) same
    (c.is_set-kept.ensures ∙ ap (λ v. cond (not (int_eq v (pos 0))) 1 0) read) (record { long = inv.long; count = inv.count; fewer = inv.fewer; done = inv.done; rest = inv.rest }) in
    record { long = next.long; count = next.count; fewer = next.fewer; done = next.done; rest = next.rest }
