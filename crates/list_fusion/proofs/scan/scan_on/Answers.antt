use Rattle.std.proofs.Common.{◌≡◌, ◌<◌, ◌+◌, ◌-◌, ◌≤◌, length, ap, sym, subst, arith, ◌∙◌, IfSome}
use Rattle.op_laws.specs.declared.TheConstants.{MAX_ELEMENTS}
use Rattle.op_laws.specs.Admits.{Admits}
use Rattle.op_laws.specs.Folds.{fold_of, beside}
use Rattle.list_fusion.specs.Pipes.{type_of, block_of}
use Rattle.list_fusion.specs.Scans.{scan_after}
use Rattle.list_fusion.proofs.BlockLemmas.{block-none, block-more, element_at, All-none, All-more, length-block}
use Rattle.list_fusion.proofs.ScanLemmas.{beside-none, scan-turn, length-scan_after}
use Rattle.list_fusion.proofs.scan.scan_on.Goals as goal

pub loop-i-init : goal.loop-i-init
loop-i-init g c =
    let op = c.args.op.now in
    let lifted = g.M.Lifted.lifted op in
    let combined = g.M.Semi.combined op in
    let p = c.args.pipe.now in
    let none = block-none p c.args.from in
    let weight : c.args.nb ≡ c.args.nb + (c.args.from - c.args.from) = omega arith in
    record {
      ty = c.new-list.ensures.ty ∙ c.result.ensures ∙ ap (g.M.Lifted.gives op) c.ty.ensures;
      value = sym (ap (λ es. beside combined c.args.before (fold_of lifted combined es)) none ∙ beside-none combined c.args.before);
      fits = subst (λ m. IfSome c.args.before (λ v. g.M.Lifted.fits op v m)) weight c.requires.before;
      items = c.new-list.ensures.items ∙ sym (ap (scan_after (g.M.Lifted.finished op) lifted combined c.args.before) none);
      admitted = All-none (Admits (type_of p)) p c.args.from;
    }

pub add-requires-clause-admitted : goal.add-requires-clause-admitted
add-requires-clause-admitted g c =
    subst (λ ty. IfSome c.told.result (Admits ty)) (sym c.loop-i.invariant.ty) (c.told.ensures.admitted (type_of c.args.pipe.now) c.requires.takes)

pub add-requires-clause-room : goal.add-requires-clause-room
add-requires-clause-room g c =
    let op = c.args.op.now in
    let es = block_of c.args.pipe.now c.args.from c.loop-i.i in
    let short = length-block c.args.pipe.now c.args.from c.loop-i.i in
    let long = ap length c.loop-i.invariant.items ∙ length-scan_after (g.M.Lifted.finished op) (g.M.Lifted.lifted op) (g.M.Semi.combined op) c.args.before es in
    let n : c.args.nb + (c.loop-i.i - c.args.from) < MAX_ELEMENTS = omega arith in
    omega (arith, short, long, n)

pub loop-i-preserved : goal.loop-i-preserved
loop-i-preserved g c =
    let op = c.args.op.now in
    let lifted = g.M.Lifted.lifted op in
    let combined = g.M.Semi.combined op in
    let p = c.args.pipe.now in
    let i = c.loop-i.i in
    let es = block_of p c.args.from i in
    let within : i < length p.head.items = omega arith in
    let one = subst (λ o. IfSome o (Admits (type_of p))) c.element-e.ensures.value c.element-e.ensures.admitted in
    let more = sym (block-more p c.args.from i (omega arith) within) in
    let weight : c.args.nb + (i - c.args.from) + 1 ≡ c.args.nb + (i + 1 - c.args.from) = omega arith in
    let few : c.args.nb + (length es + 1) ≤ MAX_ELEMENTS = omega (arith, length-block p c.args.from i) in
    let turn = scan-turn (g.met.M.Lifted.lift_laws op) (g.met.M.Semi.combine_laws op) (type_of p) c.requires.takes c.args.before c.args.nb es (element_at p i) few c.requires.before c.loop-i.invariant.admitted one
    c.element-e.result c.told.result c.is_some-kept.result c.loop-i.held c.advanced-held.result c.loop-i.list.items c.add.new.list.items c.element-e.ensures.value c.is_some-kept.ensures
    c.loop-i.invariant.value c.advanced-held.ensures.value c.told.ensures.value c.loop-i.invariant.items c.in_ok-add.ensures.items in
    record {
      ty = c.in_ok-add.ensures.ty ∙ c.loop-i.invariant.ty;
      value = turn.0 ∙ ap (λ xs. beside combined c.args.before (fold_of lifted combined xs)) more;
      fits = subst (λ m. IfSome c.advanced-held.result (λ v. g.M.Lifted.fits op v m)) weight c.advanced-held.ensures.fits;
      items = turn.1 ∙ ap (scan_after (g.M.Lifted.finished op) lifted combined c.args.before) more;
      admitted = All-more (Admits (type_of p)) p c.args.from i (omega arith) within c.loop-i.invariant.admitted one;
    }
