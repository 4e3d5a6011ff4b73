use Rattle.std.proofs.Common.{◌≡◌, ◌-◌, IfSome, map, true}
use Rattle.std.specs.List.{range_with_len}
use Rattle.op_laws.specs.Folds.{fold_of}
use Rattle.list_fusion.specs.Pipes.{block_of}
use Rattle.list_skel.specs.Blocks.{cut_at}
use Rattle.list_skel.specs.Given.{outer}
use Rattle.list_skel.proofs.folds.Folds.behinds.Given as goal

abbrev pub invariant-loop-k : goal.invariant-loop-k
invariant-loop-k g l = record {
  value : l.held ≡ fold_of (g.M.Lifted.lifted l.self.op.now) (g.M.Semi.combined l.self.op.now) (block_of l.self.pipe.now (cut_at l.self.blocks.len l.self.blocks.block (l.count - l.k)) l.self.blocks.len);
  fits : IfSome l.held (λ c. g.M.Lifted.fits l.self.op.now c (l.self.blocks.len - cut_at l.self.blocks.len l.self.blocks.block (l.count - l.k)));
  items : l.all.items ≡ map (λ i. fold_of (g.M.Lifted.lifted l.self.op.now) (g.M.Semi.combined l.self.op.now) (outer true l.self.pipe.now l.self.blocks.len l.self.blocks.block (l.count - 1 - i))) (range_with_len 0 l.k);
}
