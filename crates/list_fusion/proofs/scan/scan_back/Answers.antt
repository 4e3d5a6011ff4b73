use Rattle.std.proofs.Common.{◌≡◌, ◌<◌, ◌+◌, ◌-◌, ◌≤◌, ◌++◌, length, reverse, ap, sym, subst, arith, ◌∙◌, IfSome}
use Rattle.std.specs.List.{All}
use Rattle.std.specs.Option.{option_to_list}
use Rattle.std.proofs.lemmas.List.{length-reverse}
use Rattle.op_laws.specs.declared.TheConstants.{MAX_ELEMENTS}
use Rattle.op_laws.specs.Admits.{Admits}
use Rattle.op_laws.specs.Folds.{fold_of, beside}
use Rattle.list_fusion.specs.Pipes.{type_of, block_of}
use Rattle.list_fusion.specs.Scans.{scanr_before}
use Rattle.list_fusion.proofs.BlockLemmas.{block-none, block-front, element_at, All-none, All-front, length-block}
use Rattle.list_fusion.proofs.ScanLemmas.{scanr-turn, length-scanr_before}
use Rattle.list_fusion.proofs.scan.scan_back.Goals as goal

pub loop-k-init : goal.loop-k-init
loop-k-init g c =
    let op = c.args.op.now in
    let lifted = g.M.Lifted.lifted op in
    let combined = g.M.Semi.combined op in
    let p = c.args.pipe.now in
    let all : c.args.to - 0 ≡ c.args.to = omega arith in
    let none = ap (λ k. block_of p k c.args.to) all ∙ block-none p c.args.to in
    let weight : c.args.nb ≡ c.args.nb + 0 = omega arith in
    record {
      ty = c.new-list.ensures.ty ∙ c.result.ensures ∙ ap (g.M.Lifted.gives op) c.ty.ensures;
      value = sym (ap (λ es. beside combined (fold_of lifted combined es) c.args.behind) none);
      fits = subst (λ m. IfSome c.args.behind (λ v. g.M.Lifted.fits op v m)) weight c.requires.behind;
      items = c.new-list.ensures.items ∙ sym (ap (λ es. reverse (scanr_before (g.M.Lifted.finished op) lifted combined c.args.behind es)) none);
      admitted = subst (λ k. All (Admits (type_of p)) (block_of p k c.args.to)) (sym all) (All-none (Admits (type_of p)) p c.args.to);
    }

pub add-requires-clause-admitted : goal.add-requires-clause-admitted
add-requires-clause-admitted g c =
    subst (λ ty. IfSome c.told.result (Admits ty)) (sym c.loop-k.invariant.ty) (c.told.ensures.admitted (type_of c.args.pipe.now) c.requires.takes)

pub add-requires-clause-room : goal.add-requires-clause-room
add-requires-clause-room g c =
    let op = c.args.op.now in
    let es = block_of c.args.pipe.now (c.args.to - c.loop-k.k) c.args.to in
    let short = length-block c.args.pipe.now (c.args.to - c.loop-k.k) c.args.to in
    let told = scanr_before (g.M.Lifted.finished op) (g.M.Lifted.lifted op) (g.M.Semi.combined op) c.args.behind es in
    let long = ap length c.loop-k.invariant.items ∙ length-reverse told ∙ length-scanr_before (g.M.Lifted.finished op) (g.M.Lifted.lifted op) (g.M.Semi.combined op) c.args.behind es in
    let n : c.args.nb + c.loop-k.k < MAX_ELEMENTS = omega arith in
    omega (arith, short, long, n)

pub loop-k-preserved : goal.loop-k-preserved
loop-k-preserved g c =
    let op = c.args.op.now in
    let lifted = g.M.Lifted.lifted op in
    let combined = g.M.Semi.combined op in
    let p = c.args.pipe.now in
    let k = c.loop-k.k in
    let to = c.args.to in
    let i : to - 1 - k ≡ to - (k + 1) = omega arith in
    let next : to - 1 - k + 1 ≡ to - k = omega arith in
    let es = block_of p (to - k) to in
    let at = to - 1 - k in
    let before : at < to = omega arith in
    let one = subst (λ o. IfSome o (Admits (type_of p))) c.element-e.ensures.value c.element-e.ensures.admitted in
    let more = ap (λ m. option_to_list (element_at p at) ++ block_of p m to) (sym next) ∙ sym (block-front p at to before c.requires.within) ∙ ap (λ m. block_of p m to) i in
    let weight : c.args.nb + k + 1 ≡ c.args.nb + (k + 1) = omega arith in
    let few : c.args.nb + (length es + 1) ≤ MAX_ELEMENTS = omega (arith, length-block p (to - k) to) in
    let turn = scanr-turn (g.met.M.Lifted.lift_laws op) (g.met.M.Semi.combine_laws op) (type_of p) c.requires.takes c.args.behind c.args.nb es (element_at p at) few c.requires.behind c.loop-k.invariant.admitted one
    c.element-e.result c.told.result c.is_some-kept.result c.loop-k.held c.preceded-held.result c.loop-k.list.items c.add.new.list.items c.element-e.ensures.value c.is_some-kept.ensures
    c.loop-k.invariant.value c.preceded-held.ensures.value c.told.ensures.value c.loop-k.invariant.items c.in_ok-add.ensures.items in
    record {
      ty = c.in_ok-add.ensures.ty ∙ c.loop-k.invariant.ty;
      value = turn.0 ∙ ap (λ xs. beside combined (fold_of lifted combined xs) c.args.behind) more;
      fits = subst (λ m. IfSome c.preceded-held.result (λ v. g.M.Lifted.fits op v m)) weight c.preceded-held.ensures.fits;
      items = turn.1 ∙ ap (λ xs. reverse (scanr_before (g.M.Lifted.finished op) lifted combined c.args.behind xs)) more;
      admitted = subst (λ m. All (Admits (type_of p)) (block_of p m to)) i
          (All-front (Admits (type_of p)) p at to before c.requires.within (subst (λ m. All (Admits (type_of p)) (block_of p m to)) (sym next) c.loop-k.invariant.admitted) one);
    }
