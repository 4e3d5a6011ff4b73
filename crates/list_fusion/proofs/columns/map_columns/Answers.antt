use Rattle.std.proofs.Common.{◌≡◌, length, take, ap, subst, ◌∙◌}
use Rattle.scalar_expr.specs.Lanes.{row_at}
use Rattle.list_fusion.proofs.ColumnLemmas.{mapped}
use Rattle.list_fusion.proofs.columns.map_columns.Goals as goal

pub returns : goal.returns
returns c = λ es h.
    let f = c.args.f.now in
    let old = c.args.columns.now in
    let new = c.take_first.new.columns in
    let gives : c.len.result ≡ length f.gives = c.len.ensures.value ∙ ap length c.gives.ensures in
    let same : take (length f.gives) new ≡ take (length f.gives) c.evaluate.new.stack = subst (λ n. take n new ≡ take n c.evaluate.new.stack) gives c.take_first.ensures in
    mapped f.scalars old new (length f.takes) (length f.gives) c.args.count es h (λ j below. ap (λ columns. row_at columns j) same ∙ c.evaluate.ensures j below)
