use Rattle.std.proofs.Common.{◌≡◌, IfSome}
use Rattle.op_laws.specs.Folds.{fold_of}
use Rattle.list_fusion.specs.Pipes.{block_of}
use Rattle.list_skel.specs.Blocks.{cut_at}
use Rattle.list_skel.proofs.folds.Folds.total.Given as goal

abbrev pub invariant-loop-t : goal.invariant-loop-t
invariant-loop-t g l = record {
  value : l.held ≡ fold_of (g.M.Lifted.lifted l.self.op.now) (g.M.Semi.combined l.self.op.now) (block_of l.self.pipe.now 0 (cut_at l.self.blocks.len l.self.blocks.block l.t));
  fits : IfSome l.held (λ c. g.M.Lifted.fits l.self.op.now c (cut_at l.self.blocks.len l.self.blocks.block l.t));
}
