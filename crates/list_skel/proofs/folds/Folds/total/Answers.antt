use Rattle.std.proofs.Common.{◌≡◌, ℕ, ◌<◌, ◌+◌, ◌-◌, ◌≤◌, Option, None, length, ap, sym, subst, arith, ◌∙◌, IfSome}
use Rattle.std.specs.List.{All}
use Rattle.op_laws.specs.declared.TheConstants.{MAX_ELEMENTS}
use Rattle.op_laws.specs.Admits.{Admits}
use Rattle.op_laws.specs.Folds.{fold_of, beside}
use Rattle.list_fusion.specs.Pipes.{type_of, block_of}
use Rattle.list_skel.specs.Blocks.{cut_at, piece}
use Rattle.list_skel.specs.Given.{IsBlockFold}
use Rattle.list_skel.proofs.CutLemmas.{block-none, cut-zero, cut-last, cut-ordered, All-blocks}
use Rattle.list_skel.proofs.FoldParts.{fold-more}
use Rattle.list_skel.proofs.folds.Folds.total.Goals as goal

pub loop-t-init : goal.loop-t-init
loop-t-init g c =
    let b = c.args.self.now in
    record {
      value = sym (ap (λ k. fold_of (g.M.Lifted.lifted b.op.now) (g.M.Semi.combined b.op.now) (block_of b.pipe.now 0 k)) (cut-zero b.blocks.len b.blocks.block)
          ∙ ap (fold_of (g.M.Lifted.lifted b.op.now) (g.M.Semi.combined b.op.now)) (block-none b.pipe.now (c.blocks_follow.ensures b.pipe.now) 0));
      fits = tt;
    }

pub joined-held-requires-clause-first : goal.joined-held-requires-clause-first
joined-held-requires-clause-first g c = rw c.at-from.ensures c.loop-t.invariant.fits

pub joined-held-requires-clause-second : goal.joined-held-requires-clause-second
joined-held-requires-clause-second g c =
    let b = c.args.self.now in
    let below : c.loop-t.t < b.blocks.count = omega arith in
    let own = (c.requires.folds c.loop-t.t c.index-folds-t.result below).weight in
    rw (c.at-from.ensures, c.end-to.ensures, c.index-folds-t.is) own

pub loop-t-preserved : goal.loop-t-preserved
loop-t-preserved g c =
    let b = c.args.self.now in
    let op = b.op.now in
    let p = b.pipe.now in
    let len = b.blocks.len in
    let block = b.blocks.block in
    let t = c.loop-t.t in
    let lifted = g.M.Lifted.lifted op in
    let combined = g.M.Semi.combined op in
    let below : t < b.blocks.count = omega arith in
    let own = c.index-folds-t.is ∙ (c.requires.folds t c.index-folds-t.result below).value in
    let parts = c.blocks_follow.ensures p in
    let all = All-blocks (Admits (type_of p)) p parts len block b.blocks.count b.blocks.covers (λ i within. (c.requires.folds i None within).admitted) in
    let weight : c.at-from.result + (c.end-to.result - c.at-from.result) ≡ cut_at len block (t + 1) = omega (arith, c.at-from.ensures, c.end-to.ensures, cut-ordered len block t) in
    record {
      value = c.joined-held.ensures.value
          ∙ ap (λ h. beside combined h c.index-folds-t.result) c.loop-t.invariant.value
          ∙ ap (beside combined (fold_of lifted combined (block_of p 0 (cut_at len block t)))) own
          ∙ fold-more (g.met.M.Lifted.lift_laws op) (g.met.M.Semi.combine_laws op) (type_of p) c.requires.takes p parts len block b.blocks.few all t;
      fits = subst (λ m. IfSome c.joined-held.result (λ v. g.M.Lifted.fits op v m)) weight c.joined-held.ensures.fits;
    }

pub returns-clause-value : goal.returns-clause-value
returns-clause-value g c =
    let b = c.args.self.now in
    let p = b.pipe.now in
    let len = b.blocks.len in
    let block = b.blocks.block in
    let lifted = g.M.Lifted.lifted b.op.now in
    let combined = g.M.Semi.combined b.op.now in
    let done : c.loop-t.t ≡ b.blocks.count = omega arith in
    c.loop-t.invariant.value
    ∙ ap (λ k. fold_of lifted combined (block_of p 0 (cut_at len block k))) done
    ∙ ap (λ k. fold_of lifted combined (block_of p 0 k)) (cut-last len block b.blocks.count b.blocks.covers ∙ b.long)
    ∙ ap (fold_of lifted combined) (c.blocks_follow.ensures p).whole

pub returns-clause-fits : goal.returns-clause-fits
returns-clause-fits g c =
    let b = c.args.self.now in
    let done : c.loop-t.t ≡ b.blocks.count = omega arith in
    let all = ap (cut_at b.blocks.len b.blocks.block) done ∙ cut-last b.blocks.len b.blocks.block b.blocks.count b.blocks.covers in
    subst (λ m. IfSome c.loop-t.held (λ v. g.M.Lifted.fits b.op.now v m)) all c.loop-t.invariant.fits
