use Rattle.list_fusion.proofs.BlockLemmas.{blocks_follow}
use Rattle.list_fusion.proofs.cuts.blocks_follow.Goals as goal

pub returns : goal.returns
returns c = blocks_follow
