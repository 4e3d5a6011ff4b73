use Rattle.std.proofs.Common.{◌≡◌, ◌+◌, ◌-◌, ◌≤◌, ◌++◌, length, ap, sym, subst, arith, ◌∙◌, IfSome, false}
use Rattle.std.specs.List.{All}
use Rattle.std.proofs.lemmas.List.Elements.{All-append}
use Rattle.op_laws.specs.declared.TheConstants.{MAX_ELEMENTS}
use Rattle.op_laws.specs.Admits.{Admits}
use Rattle.op_laws.specs.Folds.{fold_of, beside}
use Rattle.list_fusion.specs.Pipes.{type_of, block_of}
use Rattle.list_fusion.specs.Scans.{scan_after}
use Rattle.list_fusion.specs.Held.{held_through, scanned}
use Rattle.list_fusion.proofs.BlockLemmas.{block-none, block-join, All-none, length-block}
use Rattle.list_fusion.proofs.ScanLemmas.{beside-none, held-on, scan-on, length-scan_after, some-grows}
use Rattle.list_fusion.proofs.scan.scan_columns.Goals as goal

pub loop-at-init : goal.loop-at-init
loop-at-init g c =
    let op = c.args.op.now in
    let lifted = g.M.Lifted.lifted op in
    let combined = g.M.Semi.combined op in
    let p = c.args.pipe.now in
    let none = block-none p c.args.from in
    let weight : c.args.nb ≡ c.args.nb + (c.args.from - c.args.from) = omega arith in
    record {
      first = omega arith;
      within = c.requires.ordered;
      ty = c.new-list.ensures.ty ∙ c.result.ensures ∙ ap (g.M.Lifted.gives op) c.ty.ensures;
      value = sym (ap (λ es. beside combined c.args.before (fold_of lifted combined es)) none ∙ beside-none combined c.args.before);
      fits = subst (λ m. IfSome c.args.before (λ v. g.M.Lifted.fits op v m)) weight c.requires.before;
      items = c.new-list.ensures.items ∙ sym (ap (scan_after (g.M.Lifted.finished op) lifted combined c.args.before) none);
      admitted = All-none (Admits (type_of p)) p c.args.from;
    }

pub scan_numbers-requires-clause-takes : goal.scan_numbers-requires-clause-takes
scan_numbers-requires-clause-takes g c = subst (g.M.Lifted.takes c.args.op.now) c.requires.columnar.last c.requires.takes

pub scan_numbers-requires-clause-ty : goal.scan_numbers-requires-clause-ty
scan_numbers-requires-clause-ty g c = c.loop-at.invariant.ty ∙ ap (g.M.Lifted.gives c.args.op.now) c.requires.columnar.last

pub scan_numbers-requires-clause-room : goal.scan_numbers-requires-clause-room
scan_numbers-requires-clause-room g c =
    let op = c.args.op.now in
    let p = c.args.pipe.now in
    let es = block_of p c.args.from c.loop-at.at in
    let long = ap length c.loop-at.invariant.items ∙ length-scan_after (g.M.Lifted.finished op) (g.M.Lifted.lifted op) (g.M.Semi.combined op) c.args.before es in
    omega (arith, long, length-block p c.args.from c.loop-at.at, c.first_column-numbers.ensures.long, c.part-kept.ensures.fewer, c.loop-at.invariant.first, c.requires.few)

pub loop-at-preserved : goal.loop-at-preserved
loop-at-preserved g c =
    let op = c.args.op.now in
    let lifted = g.M.Lifted.lifted op in
    let combined = g.M.Semi.combined op in
    let finished = g.M.Lifted.finished op in
    let lifts = g.met.M.Lifted.lift_laws op in
    let laws = g.met.M.Semi.combine_laws op in
    let p = c.args.pipe.now in
    let ty = type_of p in
    let from = c.args.from in
    let at = c.loop-at.at in
    let next = at + c.min.result in
    let inv = c.loop-at.invariant in
    let before = c.args.before in
    let held = c.loop-at.held in
    let list = c.loop-at.list.items in
    let es = block_of p from at in
    let ds = block_of p at next in
    let numbers = c.first_column-numbers.result.now in
    let told = c.first_column-numbers.ensures.value ds c.part-kept.ensures.holds in
    let more = block-join p from at next inv.first (omega arith) in
    let single : All (Admits ty) ds = subst (λ t. All (Admits t) ds) (sym c.requires.columnar.last) (rw told at c.admitted.ensures) in
    let few : c.args.nb + (length es + length ds) ≤ MAX_ELEMENTS = omega (arith, length-block p from at, length-block p at next, inv.first, c.requires.few) in
    record {
      first = omega (arith, inv.first);
      within = omega arith;
      ty = c.in_ok-held.ensures.ty ∙ inv.ty;
      value = c.in_ok-held.ensures.value
          ∙ ap (held_through lifted combined false held) told
          ∙ ap (λ h. held_through lifted combined false h ds) inv.value
          ∙ held-on lifts laws ty c.requires.takes before c.args.nb es ds few c.requires.before inv.admitted single
          ∙ ap (λ xs. beside combined before (fold_of lifted combined xs)) more;
      fits = some-grows lifts c.in_ok-held.held (c.args.nb + (at - from) + length numbers) (c.args.nb + (next - from))
          (omega (arith, c.part-kept.ensures.fewer, c.first_column-numbers.ensures.long, inv.first)) c.in_ok-held.ensures.fits;
      items = c.in_ok-held.ensures.items
          ∙ ap (λ xs. list ++ scanned lifted combined finished false held xs) told
          ∙ ap (λ h. list ++ scanned lifted combined finished false h ds) inv.value
          ∙ ap (λ xs. xs ++ scanned lifted combined finished false (beside combined before (fold_of lifted combined es)) ds) inv.items
          ∙ scan-on lifts laws ty c.requires.takes before c.args.nb es ds few c.requires.before inv.admitted single
          ∙ ap (scan_after finished lifted combined before) more;
      admitted = subst (All (Admits ty)) more (All-append (Admits ty) es ds inv.admitted single);
    }
