use Rattle.std.proofs.Common.{◌+◌, ◌-◌, length, ap, sym, subst, arith, ◌∙◌}
use Rattle.std.specs.List.{All}
use Rattle.std.proofs.lemmas.List.Elements.{All-append}
use Rattle.op_laws.specs.Admits.{Admits}
use Rattle.op_laws.specs.Folds.{fold_of}
use Rattle.list_fusion.specs.Pipes.{type_of, block_of}
use Rattle.list_fusion.specs.Held.{held_after_all}
use Rattle.list_fusion.proofs.BlockLemmas.{block-none, block-join, All-none}
use Rattle.list_fusion.proofs.ScanLemmas.{fold_of-on, some-grows}
use Rattle.list_fusion.proofs.block.fold_columns.Goals as goal

pub loop-at-init : goal.loop-at-init
loop-at-init g c =
    let p = c.args.pipe.now in
    record {
      first = omega arith;
      within = c.requires.ordered;
      value = sym (ap (fold_of (g.M.Lifted.lifted c.args.op.now) (g.M.Semi.combined c.args.op.now)) (block-none p c.args.from));
      fits = tt;
      admitted = All-none (Admits (type_of p)) p c.args.from;
    }

pub fold_numbers-held-requires-clause-takes : goal.fold_numbers-held-requires-clause-takes
fold_numbers-held-requires-clause-takes g c = subst (g.M.Lifted.takes c.args.op.now) c.requires.columnar.last c.requires.takes

pub loop-at-preserved : goal.loop-at-preserved
loop-at-preserved g c =
    let op = c.args.op.now in
    let lifted = g.M.Lifted.lifted op in
    let combined = g.M.Semi.combined op in
    let p = c.args.pipe.now in
    let from = c.args.from in
    let at = c.loop-at.at in
    let next = at + c.min.result in
    let inv = c.loop-at.invariant in
    let es = block_of p at next in
    let numbers = c.first_column-numbers.result.now in
    let told = c.first_column-numbers.ensures.value es c.part-kept.ensures.holds in
    let more = block-join p from at next inv.first (omega arith) in
    let single : All (Admits (type_of p)) es = subst (λ ty. All (Admits ty) es) (sym c.requires.columnar.last) (rw told at c.admitted.ensures) in
    record {
      first = omega (arith, inv.first);
      within = omega arith;
      value = c.fold_numbers-held.ensures.value
          ∙ ap (held_after_all lifted combined c.loop-at.held) told
          ∙ ap (λ h. held_after_all lifted combined h es) inv.value
          ∙ sym (fold_of-on lifted combined (block_of p from at) es)
          ∙ ap (fold_of lifted combined) more;
      fits = some-grows (g.met.M.Lifted.lift_laws op) c.fold_numbers-held.result (at - from + length numbers) (next - from)
          (omega (arith, c.part-kept.ensures.fewer, c.first_column-numbers.ensures.long, inv.first)) c.fold_numbers-held.ensures.fits;
      admitted = subst (All (Admits (type_of p))) more (All-append (Admits (type_of p)) (block_of p from at) es inv.admitted single);
    }
