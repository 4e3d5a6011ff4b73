use Rattle.std.proofs.Common.{◌≡◌, ◌+◌, ◌∷◌, drop, ap, sym, subst, ◌∙◌, arith}
use Rattle.std.specs.List.{AllByRecursion}
use Rattle.std.proofs.lemmas.List.{drop_more}
use Rattle.list_fusion.specs.Stages.{staged}
use Rattle.list_fusion.specs.Pipes.{type_of}
use Rattle.list_fusion.specs.Columnar.{GoesByColumns, ArePassing}
use Rattle.list_fusion.proofs.ColumnLemmas.{stage-passed}
use Rattle.list_fusion.proofs.pipe.Pipe.pass_columns.Goals as goal

pub loop-stage-preserved : goal.loop-stage-preserved
loop-stage-preserved c =
    let ss = c.deref-stage-items.result.now in
    let i = c.loop-stage.stage-index in
    let s = c.stage-item.result in
    let inv = c.loop-stage.invariant in
    let last = type_of c.args.self.now in
    let cut : drop i ss ≡ s ∷ drop (i + 1) ss = drop_more ss i s (omega arith) ∙ ap (λ t. t ∷ drop (i + 1) ss) (sym c.stage-item.is) in
    let goes = subst (AllByRecursion GoesByColumns) cut inv.goes in
    record {
      fewer = omega (arith, c.apply_columns-left.ensures.fewer, inv.fewer);
      goes = goes.1;
      holds = λ es h.
          let out = staged c.args.self.now.stages es in
          stage-passed s (drop (i + 1) ss) last c.loop-stage.columns c.apply_columns-left.new.columns c.loop-stage.left c.apply_columns-left.result out
          (subst (λ rest. ArePassing rest last c.loop-stage.columns c.loop-stage.left out) cut (inv.holds es h)) c.apply_columns-left.ensures.holds;
    }
