use Rattle.std.proofs.Common.{◌≡◌, ℕ, ◌<◌, ◌+◌, ◌-◌, ◌≤◌, ◌++◌, ◌∷◌, [], Option, None, true, map, length, get_or, ap, sym, subst, arith, ◌∙◌, IfSome}
use Rattle.std.specs.List.{All, range_with_len}
use Rattle.std.proofs.lemmas.List.{get_or-reverse, length-reverse}
use Rattle.std.proofs.lemmas.List.FromFn.{map-range_with_len_more, length-map-range_with_len, get_or-map-range_with_len}
use Rattle.op_laws.specs.declared.TheConstants.{MAX_ELEMENTS}
use Rattle.op_laws.specs.Admits.{Admits}
use Rattle.op_laws.specs.Folds.{fold_of, beside}
use Rattle.list_fusion.specs.Pipes.{type_of, block_of}
use Rattle.list_skel.specs.Blocks.{cut_at, piece}
use Rattle.list_skel.specs.Given.{IsBlockFold, outer}
use Rattle.list_skel.proofs.CutLemmas.{block-none, cut-last, cut-ordered, cut-within, All-blocks}
use Rattle.list_skel.proofs.FoldParts.{fold-back}
use Rattle.list_skel.proofs.folds.Folds.behinds.Goals as goal

pub loop-k-init : goal.loop-k-init
loop-k-init g c =
    let b = c.args.self.now in
    let p = b.pipe.now in
    let len = b.blocks.len in
    let block = b.blocks.block in
    let lifted = g.M.Lifted.lifted b.op.now in
    let combined = g.M.Semi.combined b.op.now in
    let all : c.count-count.result - 0 ≡ b.blocks.count = omega arith in
    let at = ap (cut_at len block) all ∙ cut-last len block b.blocks.count b.blocks.covers in
    record {
      value = sym (ap (λ k. fold_of lifted combined (block_of p k len)) at ∙ ap (fold_of lifted combined) (block-none p (c.blocks_follow.ensures p) len));
      fits = tt;
      items = c.in_ok-all.ensures.items;
    }

pub joined-held-requires-clause-first : goal.joined-held-requires-clause-first
joined-held-requires-clause-first g c =
    let b = c.args.self.now in
    let t = c.count-count.result - 1 - c.loop-k.k in
    let below : t < b.blocks.count = omega arith in
    let own = (c.requires.folds t c.index-folds-t.result below).weight in
    rw (c.at-from.ensures, c.end-to.ensures, c.index-folds-t.is) own

pub joined-held-requires-clause-second : goal.joined-held-requires-clause-second
joined-held-requires-clause-second g c =
    let b = c.args.self.now in
    let t = c.count-count.result - 1 - c.loop-k.k in
    let next : c.count-count.result - c.loop-k.k ≡ t + 1 = omega arith in
    let fits = subst (λ m. IfSome c.loop-k.held (λ v. g.M.Lifted.fits b.op.now v (b.blocks.len - cut_at b.blocks.len b.blocks.block m))) next c.loop-k.invariant.fits in
    rw c.outside-behind.ensures fits

pub loop-k-preserved : goal.loop-k-preserved
loop-k-preserved g c =
    let b = c.args.self.now in
    let op = b.op.now in
    let p = b.pipe.now in
    let len = b.blocks.len in
    let block = b.blocks.block in
    let count = c.count-count.result in
    let k = c.loop-k.k in
    let t = count - 1 - k in
    let lifted = g.M.Lifted.lifted op in
    let combined = g.M.Semi.combined op in
    let f = λ (i : ℕ). fold_of lifted combined (outer true p len block (count - 1 - i)) in
    let below : t < b.blocks.count = omega arith in
    let next : count - k ≡ t + 1 = omega arith in
    let last : t ≡ count - (k + 1) = omega arith in
    let own = c.index-folds-t.is ∙ (c.requires.folds t c.index-folds-t.result below).value in
    let held = c.loop-k.invariant.value ∙ ap (λ m. fold_of lifted combined (block_of p (cut_at len block m) len)) next in
    let parts = c.blocks_follow.ensures p in
    let all = All-blocks (Admits (type_of p)) p parts len block b.blocks.count b.blocks.covers (λ i within. (c.requires.folds i None within).admitted) in
    let weight : (c.end-to.result - c.at-from.result) + c.outside-behind.result ≡ len - cut_at len block t =
    omega (arith, c.at-from.ensures, c.end-to.ensures, c.outside-behind.ensures, cut-ordered len block t, cut-within len block (t + 1)) in
    record {
      value = c.joined-held.ensures.value
          ∙ ap (λ h. beside combined h c.loop-k.held) own
          ∙ ap (beside combined (fold_of lifted combined (piece p len block t))) held
          ∙ fold-back (g.met.M.Lifted.lift_laws op) (g.met.M.Semi.combine_laws op) (type_of p) c.requires.takes p parts len block b.blocks.few all t
          ∙ ap (λ m. fold_of lifted combined (block_of p (cut_at len block m) len)) last;
      fits = subst (λ m. IfSome c.joined-held.result (λ v. g.M.Lifted.fits op v (len - cut_at len block m))) last
          (subst (λ m. IfSome c.joined-held.result (λ v. g.M.Lifted.fits op v m)) weight c.joined-held.ensures.fits);
      items = c.in_ok-push.ensures.items
          ∙ ap (λ xs. xs ++ c.loop-k.held ∷ []) c.loop-k.invariant.items
          ∙ ap (λ h. map f (range_with_len 0 k) ++ h ∷ []) held
          ∙ sym (map-range_with_len_more f 0 k k (omega arith));
    }

pub returns-clause-count : goal.returns-clause-count
returns-clause-count g c =
    let b = c.args.self.now in
    let f = λ (i : ℕ). fold_of (g.M.Lifted.lifted b.op.now) (g.M.Semi.combined b.op.now) (outer true b.pipe.now b.blocks.len b.blocks.block (c.count-count.result - 1 - i)) in
    let done : c.loop-k.k ≡ b.blocks.count = omega arith in
    ap length c.reverse.ensures.items ∙ length-reverse c.loop-k.all.items ∙ ap length c.loop-k.invariant.items ∙ length-map-range_with_len f 0 c.loop-k.k ∙ done

pub returns-clause-outers : goal.returns-clause-outers
returns-clause-outers g c = λ i d below.
    let b = c.args.self.now in
    let lifted = g.M.Lifted.lifted b.op.now in
    let combined = g.M.Semi.combined b.op.now in
    let count = c.count-count.result in
    let f = λ (i : ℕ). fold_of lifted combined (outer true b.pipe.now b.blocks.len b.blocks.block (count - 1 - i)) in
    let long = ap length c.loop-k.invariant.items ∙ length-map-range_with_len f 0 c.loop-k.k in
    let j = length c.loop-k.all.items - 1 - i in
    let within : j < c.loop-k.k = omega (arith, long) in
    let back : count - 1 - j ≡ i = omega (arith, long) in
    ap (λ xs. get_or xs i d) c.reverse.ensures.items
    ∙ get_or-reverse c.loop-k.all.items i d (omega (arith, long))
    ∙ ap (λ xs. get_or xs j d) c.loop-k.invariant.items
    ∙ get_or-map-range_with_len f 0 c.loop-k.k j j d within (omega arith)
    ∙ ap (λ m. fold_of lifted combined (outer true b.pipe.now b.blocks.len b.blocks.block m)) back
