use Rattle.std.proofs.Common.{◌≡◌, ◌<◌, ◌+◌, ◌-◌, length, ap, sym, subst, arith, ◌∙◌, IfSome}
use Rattle.op_laws.specs.Admits.{Admits}
use Rattle.op_laws.specs.Folds.{fold_of}
use Rattle.list_fusion.specs.Pipes.{type_of, block_of}
use Rattle.list_fusion.specs.Held.{held_after}
use Rattle.list_fusion.proofs.BlockLemmas.{block-none, block-more, element_at, All-none, All-more}
use Rattle.list_fusion.proofs.ScanLemmas.{fold_of-option}
use Rattle.list_fusion.proofs.block.fold_elements.Goals as goal

pub loop-i-init : goal.loop-i-init
loop-i-init g c =
    let p = c.args.pipe.now in
    record {
      value = sym (ap (fold_of (g.M.Lifted.lifted c.args.op.now) (g.M.Semi.combined c.args.op.now)) (block-none p c.args.from));
      fits = tt;
      admitted = All-none (Admits (type_of p)) p c.args.from;
    }

pub loop-i-preserved : goal.loop-i-preserved
loop-i-preserved g c =
    let lifted = g.M.Lifted.lifted c.args.op.now in
    let combined = g.M.Semi.combined c.args.op.now in
    let p = c.args.pipe.now in
    let i = c.loop-i.i in
    let n : i - c.args.from + 1 ≡ i + 1 - c.args.from = omega arith in
    let within : i < length p.head.items = omega arith in
    record {
      value = c.advanced-held.ensures.value
          ∙ ap (λ k. held_after lifted combined k c.element.result) c.loop-i.invariant.value
          ∙ ap (held_after lifted combined (fold_of lifted combined (block_of p c.args.from i))) c.element.ensures.value
          ∙ sym (fold_of-option lifted combined (block_of p c.args.from i) (element_at p i))
          ∙ sym (ap (fold_of lifted combined) (block-more p c.args.from i (omega arith) within));
      fits = subst (λ m. IfSome c.advanced-held.result (λ v. g.M.Lifted.fits c.args.op.now v m)) n c.advanced-held.ensures.fits;
      admitted = All-more (Admits (type_of p)) p c.args.from i (omega arith) within c.loop-i.invariant.admitted
          (subst (λ o. IfSome o (Admits (type_of p))) c.element.ensures.value c.element.ensures.admitted);
    }
