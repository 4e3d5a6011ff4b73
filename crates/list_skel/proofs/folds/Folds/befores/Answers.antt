use Rattle.std.proofs.Common.{◌≡◌, ℕ, ◌<◌, ◌+◌, ◌-◌, ◌≤◌, ◌++◌, ◌∷◌, [], Option, None, false, map, length, get_or, ap, sym, subst, arith, ◌∙◌, IfSome}
use Rattle.std.specs.List.{All, range_with_len}
use Rattle.std.proofs.lemmas.List.FromFn.{map-range_with_len_more, length-map-range_with_len, get_or-map-range_with_len}
use Rattle.op_laws.specs.declared.TheConstants.{MAX_ELEMENTS}
use Rattle.op_laws.specs.Admits.{Admits}
use Rattle.op_laws.specs.Folds.{fold_of, beside}
use Rattle.list_fusion.specs.Pipes.{type_of, block_of}
use Rattle.list_skel.specs.Blocks.{cut_at, piece}
use Rattle.list_skel.specs.Given.{IsBlockFold, outer}
use Rattle.list_skel.proofs.CutLemmas.{block-none, cut-zero, cut-ordered, All-blocks}
use Rattle.list_skel.proofs.FoldParts.{fold-more}
use Rattle.list_skel.proofs.folds.Folds.befores.Goals as goal

pub loop-t-init : goal.loop-t-init
loop-t-init g c =
    let b = c.args.self.now in
    record {
      value = sym (ap (λ k. fold_of (g.M.Lifted.lifted b.op.now) (g.M.Semi.combined b.op.now) (block_of b.pipe.now 0 k)) (cut-zero b.blocks.len b.blocks.block)
          ∙ ap (fold_of (g.M.Lifted.lifted b.op.now) (g.M.Semi.combined b.op.now)) (block-none b.pipe.now (c.blocks_follow.ensures b.pipe.now) 0));
      fits = tt;
      items = c.in_ok-all.ensures.items;
    }

pub joined-held-requires-clause-first : goal.joined-held-requires-clause-first
joined-held-requires-clause-first g c = rw c.at-from.ensures c.loop-t.invariant.fits

pub joined-held-requires-clause-second : goal.joined-held-requires-clause-second
joined-held-requires-clause-second g c =
    let b = c.args.self.now in
    let below : c.loop-t.t < b.blocks.count = omega arith in
    let own = (c.requires.folds c.loop-t.t c.index-folds-t.result below).weight in
    rw (c.at-from.ensures, c.end-to.ensures, c.index-folds-t.is) own

pub loop-t-preserved : goal.loop-t-preserved
loop-t-preserved g c =
    let b = c.args.self.now in
    let op = b.op.now in
    let p = b.pipe.now in
    let len = b.blocks.len in
    let block = b.blocks.block in
    let t = c.loop-t.t in
    let lifted = g.M.Lifted.lifted op in
    let combined = g.M.Semi.combined op in
    let f = λ (i : ℕ). fold_of lifted combined (outer false p len block i) in
    let below : t < b.blocks.count = omega arith in
    let own = c.index-folds-t.is ∙ (c.requires.folds t c.index-folds-t.result below).value in
    let parts = c.blocks_follow.ensures p in
    let all = All-blocks (Admits (type_of p)) p parts len block b.blocks.count b.blocks.covers (λ i within. (c.requires.folds i None within).admitted) in
    let weight : c.at-from.result + (c.end-to.result - c.at-from.result) ≡ cut_at len block (t + 1) = omega (arith, c.at-from.ensures, c.end-to.ensures, cut-ordered len block t) in
    record {
      value = c.joined-held.ensures.value
          ∙ ap (λ h. beside combined h c.index-folds-t.result) c.loop-t.invariant.value
          ∙ ap (beside combined (fold_of lifted combined (block_of p 0 (cut_at len block t)))) own
          ∙ fold-more (g.met.M.Lifted.lift_laws op) (g.met.M.Semi.combine_laws op) (type_of p) c.requires.takes p parts len block b.blocks.few all t;
      fits = subst (λ m. IfSome c.joined-held.result (λ v. g.M.Lifted.fits op v m)) weight c.joined-held.ensures.fits;
      items = c.in_ok-push.ensures.items
          ∙ ap (λ xs. xs ++ c.loop-t.held ∷ []) c.loop-t.invariant.items
          ∙ ap (λ h. map f (range_with_len 0 t) ++ h ∷ []) c.loop-t.invariant.value
          ∙ sym (map-range_with_len_more f 0 t t (omega arith));
    }

pub returns-clause-count : goal.returns-clause-count
returns-clause-count g c =
    let b = c.args.self.now in
    let done : c.loop-t.t ≡ b.blocks.count = omega arith in
    ap length c.loop-t.invariant.items ∙ length-map-range_with_len (λ i. fold_of (g.M.Lifted.lifted b.op.now) (g.M.Semi.combined b.op.now) (outer false b.pipe.now b.blocks.len b.blocks.block i)) 0 c.loop-t.t ∙ done

pub returns-clause-outers : goal.returns-clause-outers
returns-clause-outers g c = λ i d below.
    let b = c.args.self.now in
    let within : i < c.loop-t.t = omega arith in
    ap (λ xs. get_or xs i d) c.loop-t.invariant.items
    ∙ get_or-map-range_with_len (λ i. fold_of (g.M.Lifted.lifted b.op.now) (g.M.Semi.combined b.op.now) (outer false b.pipe.now b.blocks.len b.blocks.block i)) 0 c.loop-t.t i i d within (omega arith)
