use Rattle.std.proofs.Common.{◌≡◌, ◌<◌, ◌≤◌, length, take, get_or, pos, [], ap, sym, subst, ◌∙◌, arith}
use Rattle.std.specs.List.{filter}
use Rattle.scalar_expr.specs.Lanes.{row_at}
use Rattle.scalar_expr.specs.Values.{values_of}
use Rattle.list_fusion.specs.Stages.{is_kept}
use Rattle.list_fusion.specs.Columnar.{Holds}
use Rattle.list_fusion.proofs.ColumnLemmas.{kept, row-one}
use Rattle.list_fusion.proofs.columns.keep_columns.Goals as goal

pub returns-clause-rows : goal.returns-clause-rows
returns-clause-rows c = λ es h.
    let f = c.args.f.now in
    let old = c.args.columns.now in
    let new = c.compact_all.new.columns in
    let stack = c.evaluate.new.stack in
    let flags = get_or stack 0 [] in
    let width : c.len.result ≡ length f.takes = c.len.ensures.value ∙ ap length c.takes.ensures in
    let few : length f.takes ≤ 4 = omega (arith, width, c.len.ensures.high, c.len.ensures.value) in
    let wide_old : length f.takes ≤ length old = omega (arith, few, c.told-columns) in
    let wide_new : length f.takes ≤ length new = omega (arith, few, c.compact_all.array_long) in
    let some : 1 ≤ length stack = omega (arith, c.evaluate.array_long) in
    let values : (j : _) → j < c.args.count → get_or flags j (pos 0) ≡ get_or (values_of f.scalars (row_at (take (length f.takes) old) j)) 0 (pos 0) = λ j below.
    ap (λ r. get_or r 0 (pos 0)) (sym (row-one stack j some) ∙ ap (λ n. row_at (take n stack) j) (sym c.requires.single) ∙ c.evaluate.ensures j below) in
    let rows = kept flags f.scalars old new (length f.takes) c.args.count es wide_old wide_new h values (λ k lt t below. c.compact_all.ensures.kept k (omega (arith, width, lt)) t below) in
    subst (λ n. Holds new (length f.takes) n (filter (is_kept f.scalars) es)) (sym c.compact_all.ensures.count) rows
