use Rattle.std.proofs.Common.{◌≡◌, ◌+◌, ◌-◌, ◌≤◌, ◌++◌, length, reverse, ap, sym, subst, arith, ◌∙◌, IfSome, true}
use Rattle.std.specs.List.{All}
use Rattle.std.proofs.lemmas.List.{length-reverse, reverse-reverse}
use Rattle.std.proofs.lemmas.List.Elements.{All-append}
use Rattle.op_laws.specs.declared.TheConstants.{MAX_ELEMENTS}
use Rattle.op_laws.specs.Admits.{Admits}
use Rattle.op_laws.specs.Folds.{fold_of, beside}
use Rattle.list_fusion.specs.Pipes.{type_of, block_of}
use Rattle.list_fusion.specs.Scans.{scanr_before}
use Rattle.list_fusion.specs.Held.{held_through, scanned}
use Rattle.list_fusion.proofs.BlockLemmas.{block-none, block-join, All-none, length-block}
use Rattle.list_fusion.proofs.ScanLemmas.{held-back, scan-back, length-scanr_before, some-grows, All-reverse}
use Rattle.list_fusion.proofs.scan.scan_columns_back.Goals as goal

pub loop-at-init : goal.loop-at-init
loop-at-init g c =
    let op = c.args.op.now in
    let lifted = g.M.Lifted.lifted op in
    let combined = g.M.Semi.combined op in
    let p = c.args.pipe.now in
    let none = block-none p c.args.to in
    let weight : c.args.nb ≡ c.args.nb + (c.args.to - c.args.to) = omega arith in
    record {
      first = c.requires.ordered;
      within = omega arith;
      ty = c.new-list.ensures.ty ∙ c.result.ensures ∙ ap (g.M.Lifted.gives op) c.ty.ensures;
      value = sym (ap (λ es. beside combined (fold_of lifted combined es) c.args.behind) none);
      fits = subst (λ m. IfSome c.args.behind (λ v. g.M.Lifted.fits op v m)) weight c.requires.behind;
      items = c.new-list.ensures.items ∙ sym (ap (λ es. reverse (scanr_before (g.M.Lifted.finished op) lifted combined c.args.behind es)) none);
      admitted = All-none (Admits (type_of p)) p c.args.to;
    }

pub scan_numbers-requires-clause-takes : goal.scan_numbers-requires-clause-takes
scan_numbers-requires-clause-takes g c = subst (g.M.Lifted.takes c.args.op.now) c.requires.columnar.last c.requires.takes

pub scan_numbers-requires-clause-ty : goal.scan_numbers-requires-clause-ty
scan_numbers-requires-clause-ty g c = c.loop-at.invariant.ty ∙ ap (g.M.Lifted.gives c.args.op.now) c.requires.columnar.last

pub scan_numbers-requires-clause-room : goal.scan_numbers-requires-clause-room
scan_numbers-requires-clause-room g c =
    let op = c.args.op.now in
    let p = c.args.pipe.now in
    let es = block_of p c.loop-at.at c.args.to in
    let told = scanr_before (g.M.Lifted.finished op) (g.M.Lifted.lifted op) (g.M.Semi.combined op) c.args.behind es in
    let long = ap length c.loop-at.invariant.items ∙ length-reverse told ∙ length-scanr_before (g.M.Lifted.finished op) (g.M.Lifted.lifted op) (g.M.Semi.combined op) c.args.behind es in
    omega (arith, long, length-block p c.loop-at.at c.args.to, c.first_column-numbers.ensures.long, c.part-kept.ensures.fewer, c.loop-at.invariant.within, c.requires.few)

pub loop-at-preserved : goal.loop-at-preserved
loop-at-preserved g c =
    let op = c.args.op.now in
    let lifted = g.M.Lifted.lifted op in
    let combined = g.M.Semi.combined op in
    let finished = g.M.Lifted.finished op in
    let lifts = g.met.M.Lifted.lift_laws op in
    let laws = g.met.M.Semi.combine_laws op in
    let p = c.args.pipe.now in
    let ty = type_of p in
    let to = c.args.to in
    let at = c.loop-at.at in
    let next = at - c.min.result in
    let inv = c.loop-at.invariant in
    let behind = c.args.behind in
    let held = c.loop-at.held in
    let list = c.loop-at.list.items in
    let es = block_of p at to in
    let ds = block_of p next at in
    let rs = reverse ds in
    let numbers = c.first_column-numbers.result.now in
    let told = c.first_column-numbers.ensures.value rs c.part-kept.ensures.holds in
    let more : reverse rs ++ es ≡ block_of p next to = ap (λ xs. xs ++ es) (reverse-reverse ds) ∙ block-join p next at to (omega arith) inv.within in
    let single : All (Admits ty) rs = subst (λ t. All (Admits t) rs) (sym c.requires.columnar.last) (rw told at c.admitted.ensures) in
    let few : c.args.nb + (length es + length rs) ≤ MAX_ELEMENTS = omega (arith, length-block p at to, length-block p next at, length-reverse ds, inv.within, c.requires.few) in
    record {
      first = omega (arith, inv.first);
      within = omega (arith, inv.within);
      ty = c.in_ok-held.ensures.ty ∙ inv.ty;
      value = c.in_ok-held.ensures.value
          ∙ ap (held_through lifted combined true held) told
          ∙ ap (λ h. held_through lifted combined true h rs) inv.value
          ∙ held-back lifts laws ty c.requires.takes behind c.args.nb es rs few c.requires.behind inv.admitted single
          ∙ ap (λ xs. beside combined (fold_of lifted combined xs) behind) more;
      fits = some-grows lifts c.in_ok-held.held (c.args.nb + (to - at) + length numbers) (c.args.nb + (to - next))
          (omega (arith, c.part-kept.ensures.fewer, c.first_column-numbers.ensures.long, inv.within)) c.in_ok-held.ensures.fits;
      items = c.in_ok-held.ensures.items
          ∙ ap (λ xs. list ++ scanned lifted combined finished true held xs) told
          ∙ ap (λ h. list ++ scanned lifted combined finished true h rs) inv.value
          ∙ ap (λ xs. xs ++ scanned lifted combined finished true (beside combined (fold_of lifted combined es) behind) rs) inv.items
          ∙ scan-back lifts laws ty c.requires.takes behind c.args.nb es rs few c.requires.behind inv.admitted single
          ∙ ap (λ xs. reverse (scanr_before finished lifted combined behind xs)) more;
      admitted = subst (All (Admits ty)) more (All-append (Admits ty) (reverse rs) es (All-reverse (Admits ty) rs single) inv.admitted);
    }
