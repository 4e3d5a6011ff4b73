use Rattle.std.proofs.Common.{◌≡◌}
use Rattle.list_skel.proofs.FoldParts.{fold-given}
use Rattle.list_skel.proofs.folds.FoldsTask.run.Goals as goal

pub returns : goal.returns
returns g c =
    let b = c.args.self.now in
    fold-given (g.M.Lifted.fits b.op.now) (g.M.Lifted.lifted b.op.now) (g.M.Semi.combined b.op.now) b.pipe.now b.blocks.len b.blocks.block c.args.ticket c.fold_block.result c.at-from.result c.end-to.result
    c.at-from.ensures c.end-to.ensures c.fold_block.ensures.value c.fold_block.ensures.fits c.fold_block.ensures.admitted
